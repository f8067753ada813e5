-- The globals and the functions of a unit, by the numbers that they are declared with.
use Rattle.std.proofs.Common.{◌≡◌, ℕ, suc, ◌+◌, Bool, true, false, List, [], ◌∷◌, ◌++◌, map, length, Some, refl, sym, ap, ◌∙◌, subst, arith, append-nil, ltb-false}
use Rattle.std.specs.Prelude.{if◌then◌else◌, not, ◌||◌, nat_lt, filter, flat_map, slice_get}
use Rattle.std.specs.List.{list_any}
use Rattle.std.proofs.lemmas.List.Concat.{flat_map-append}
use Rattle.plc_text.specs.declared.code.Code.TheVariants.{E15}
use Rattle.st_tree.specs.declared.configuration.InstanceSpec.{InstanceSpec}
use Rattle.st_tree.specs.declared.declaration.FunctionDecl.{FunctionDecl}
use Rattle.st_tree.specs.declared.declaration.Item.{Item}
use Rattle.st_tree.specs.declared.declaration.Section.{Section}
use Rattle.st_tree.specs.declared.declaration.TypeDecl.{TypeDecl}
use Rattle.st_tree.specs.declared.program.Target.TheVariants as target
use Rattle.st_tree.specs.declared.unit.Decl.{Decl}
use Rattle.st_tree.specs.declared.unit.Decl.TheVariants as declaration
use Rattle.st_rules.specs.declared.names.DeclaredGlobal.{DeclaredGlobal}
use Rattle.st_rules.specs.declared.names.DeclaredGlobal.TheVariants as global
use Rattle.st_rules.specs.declared.names.DeclaredNames.{DeclaredNames}
use Rattle.st_rules.specs.Scope.{Scope}
use Rattle.st_rules.proofs.Booleans.{false≢true}
use Rattle.st_unit_rules.specs.declared_names.Declarations.{Declaration, an_entry, a_global, an_interface, a_class, a_function, a_program, a_configuration, Region, of_global, of_instance, Placed, placed, placed_from, place_each, declarations_of, globals_of_item, globals_of_section, configuration_globals, region_of_global, regions_of, instances_of, is_configuration, is_first_configuration, number_among, functions_in}
use Rattle.st_unit_rules.specs.declared_names.UnitNames.{unit_names, unit_scope, names_from, routine_declared, variables_declared, region_count, globals_from}
use Rattle.st_unit_rules.specs.declared_names.Variables.{Written, item_written, section_written, sections_written, declared_with, constant_target, constant_of}
use Rattle.st_unit_rules.specs.declared_names.WrittenTypes.{type_written}
use Rattle.st_unit_rules.specs.Checked.{regions_from, unit_regions}
use Rattle.st_unit_rules.specs.ConfigurationRules.{second_configuration, tasks_and_instances}
use Rattle.st_unit_rules.specs.DeclarationRules.{regions_faults, instance_regions, sort_faults}
use Rattle.st_unit_rules.specs.NameRules.{configuration_name_faults}
use Rattle.st_unit_rules.specs.UnitRefusal.{BreaksNothing}
use Rattle.resolution_order.specs.told_laws.ToldLaws.{Every}
use Rattle.resolution_order.proofs.told_laws.Telling.{told_laws}
use Rattle.accepted_texts.proofs.unfolding_laws.CycleLaws.{none_in, not_when, none_there}
use Rattle.accepted_texts.proofs.unfolding_laws.ListLaws.{every_append, every_back, every_from, Behind, all_behind, behind_here, behind_next, behind_part}

-- ---- the regions of sections

item_regions : (s : Section ℕ) (item : Item ℕ) (first : Bool) (ws : List Written) → flat_map regions_of (globals_of_item s item first ws) ≡ flat_map region_of_global ws
item_regions s item first [] = refl
item_regions s item first (w ∷ ws) = ap (λ rs. region_of_global w ++ rs) (item_regions s item false ws)

items_regions : (s : Section ℕ) (items : List (Item ℕ)) → flat_map regions_of (flat_map (λ item. globals_of_item s item true (item_written s item)) items) ≡ flat_map region_of_global (flat_map (item_written s) items)
items_regions s [] = refl
items_regions s (item ∷ items) =
    flat_map-append regions_of (globals_of_item s item true (item_written s item)) (flat_map (λ i. globals_of_item s i true (item_written s i)) items)
    ∙ (ap (λ rs. rs ++ flat_map regions_of (flat_map (λ i. globals_of_item s i true (item_written s i)) items)) (item_regions s item true (item_written s item))
    ∙ (ap (λ rs. flat_map region_of_global (item_written s item) ++ rs) (items_regions s items)
    ∙ sym (flat_map-append region_of_global (item_written s item) (flat_map (item_written s) items))))

sections_regions : (ss : List (Section ℕ)) → flat_map regions_of (flat_map globals_of_section ss) ≡ flat_map region_of_global (sections_written ss)
sections_regions [] = refl
sections_regions (s ∷ ss) =
    flat_map-append regions_of (globals_of_section s) (flat_map globals_of_section ss)
    ∙ (ap (λ rs. rs ++ flat_map regions_of (flat_map globals_of_section ss)) (items_regions s s.items)
    ∙ (ap (λ rs. flat_map region_of_global (section_written s) ++ rs) (sections_regions ss)
    ∙ sym (flat_map-append region_of_global (section_written s) (sections_written ss))))

-- ---- the first configuration is the only one

none_of : (ds : List Declaration) → length (filter is_configuration ds) ≡ 0 → list_any is_configuration ds ≡ false
none_of [] k = refl
none_of (d ∷ ds) k = by (is_configuration d) (none_of ds) k
  where
    by : (b : Bool) → (length (filter is_configuration ds) ≡ 0 → list_any is_configuration ds ≡ false) → length (if b then d ∷ filter is_configuration ds else filter is_configuration ds) ≡ 0 → (b || list_any is_configuration ds) ≡ false
    by true f q = absurd (omega (arith, q))
    by false f q = f q

none_first : (e : List Declaration) → length (filter is_configuration e) ≡ 0 → is_first_configuration e ≡ true
none_first e h = ap not (none_of e h)

abbrev IsFirst : Placed → Declaration → Type 0
IsFirst x (a_configuration c) = is_first_configuration x.earlier ≡ true
IsFirst x _ = Unit {0}

abbrev FirstPlaced : Placed → Type 0
FirstPlaced x = IsFirst x x.declaration

module _ (decls : List (Decl ℕ)) where
  abbrev pub unit : Scope
  unit = unit_scope decls (unit_names decls)

  -- ---- what is declared

  -- a global with its region, a function with its text
  abbrev pub GlobalAt : DeclaredGlobal → Type 0
  GlobalAt (global.Variable v) = (w : Written) × (v.kind ≡ type_written unit w.item.kind) × (v.constant ≡ false → (r : ℕ) × (v.target ≡ target.Region r) × (slice_get (unit_regions decls) r ≡ Some (of_global w)))
  GlobalAt (global.Function k x) = (f : FunctionDecl ℕ) × (slice_get (functions_in decls) k ≡ Some f) × (x ≡ routine_declared unit f.name.text [] f.result f.sections)

  -- the globals, and what stands behind their regions
  record Passed (ws : List Written) (r : ℕ) (rest : List Region) : Type 0 where
    each : Every GlobalAt (variables_declared decls (unit_names decls) r ws)
    behind : Behind Region (unit_regions decls) rest (r + region_count decls (unit_names decls) ws)

  abbrev ListedBy : Bool → Written → List Written → ℕ → List DeclaredGlobal
  ListedBy b w ws r =
      if b
      then global.Variable (declared_with unit (constant_target (constant_of unit w)) w) ∷ variables_declared decls (unit_names decls) r ws
      else global.Variable (declared_with unit (target.Region r) w) ∷ variables_declared decls (unit_names decls) (suc r) ws

  abbrev CountedBy : Bool → Written → List Written → ℕ
  CountedBy b w ws = length (if (if b then false else true) then w ∷ filter (λ (u : Written). if u.constant then false else true) ws else filter (λ (u : Written). if u.constant then false else true) ws)

  passed_next : (w : Written) (ws : List Written) (r : ℕ) (rest : List Region) → ((q : ℕ) → Behind Region (unit_regions decls) (flat_map region_of_global ws ++ rest) q → Passed ws q rest)
      → (b : Bool) → w.constant ≡ b → Behind Region (unit_regions decls) (((if b then [] else of_global w ∷ []) ++ flat_map region_of_global ws) ++ rest) r → Passed (w ∷ ws) r rest
  passed_next w ws r rest later true e k =
      let t = later r k in
      record {
        each = subst (Every GlobalAt) (sym (ap (λ b. ListedBy b w ws r) e)) ((w, refl, λ q. absurd (false≢true (sym q ∙ e))), t.each);
        behind = subst (λ n. Behind Region (unit_regions decls) rest (r + n)) (sym (ap (λ b. CountedBy b w ws) e)) t.behind;
      }
  passed_next w ws r rest later false e k =
      let place = behind_here (unit_regions decls) (flat_map region_of_global ws ++ rest) r (of_global w) k in
      let t = later (suc r) (behind_next (unit_regions decls) (flat_map region_of_global ws ++ rest) r (of_global w) k) in
      let z : suc r + region_count decls (unit_names decls) ws ≡ r + suc (region_count decls (unit_names decls) ws) = omega arith in
      record {
        each = subst (Every GlobalAt) (sym (ap (λ b. ListedBy b w ws r) e)) ((w, refl, λ q. (r, refl, place)), t.each);
        behind = subst (λ n. Behind Region (unit_regions decls) rest (r + n)) (sym (ap (λ b. CountedBy b w ws) e)) (subst (Behind Region (unit_regions decls) rest) z t.behind);
      }

  variables_at : (ws : List Written) (r : ℕ) (rest : List Region) → Behind Region (unit_regions decls) (flat_map region_of_global ws ++ rest) r → Passed ws r rest
  variables_at [] r rest h = let z : r ≡ r + 0 = omega arith in record { each = tt; behind = subst (Behind Region (unit_regions decls) rest) z h }
  variables_at (w ∷ ws) r rest h = passed_next w ws r rest (λ q k. variables_at ws q rest k) w.constant refl h

  -- ---- declarations one after the other

  abbrev Rest : List Declaration → List (Decl ℕ) → ℕ → Type 0
  Rest e ds r = Behind Region (unit_regions decls) (regions_from decls e ds) r

  abbrev Functions : List (Decl ℕ) → ℕ → Type 0
  Functions ds k = Behind (FunctionDecl ℕ) (functions_in decls) (functions_in ds) k

  none_entries : (ts : List (TypeDecl ℕ)) → flat_map regions_of (map an_entry ts) ≡ []
  none_entries [] = refl
  none_entries (t ∷ ts) = none_entries ts

  shifted : (xs ys zs : List Region) → (xs ++ (ys ++ zs)) ≡ (xs ++ ys) ++ zs
  shifted [] ys zs = refl
  shifted (x ∷ xs) ys zs = ap (λ l. x ∷ l) (shifted xs ys zs)

  instances_long : (xs : List InstanceSpec) → length (map of_instance xs) ≡ length xs
  instances_long [] = refl
  instances_long (x ∷ xs) = ap suc (instances_long xs)

  -- a declaration that is no configuration has no instances
  abbrev IsPlain : Decl ℕ → Type 0
  IsPlain (declaration.Configuration c) = ⊥
  IsPlain _ = Unit {0}

  no_instances : (b : Bool) (d : Decl ℕ) → IsPlain d → instances_of b d ≡ []
  no_instances false d h = refl
  no_instances true (declaration.Types l ts) h = refl
  no_instances true (declaration.Globals s) h = refl
  no_instances true (declaration.Interface d) h = refl
  no_instances true (declaration.Class d) h = refl
  no_instances true (declaration.Function d) h = refl
  no_instances true (declaration.Program d) h = refl
  no_instances true (declaration.Configuration c) h = absurd h

  plain_rest : (e : List Declaration) (d : Decl ℕ) (ds : List (Decl ℕ)) (r : ℕ) → IsPlain d → Rest e (d ∷ ds) r → Behind Region (unit_regions decls) (flat_map regions_of (declarations_of d) ++ regions_from decls (e ++ declarations_of d) ds) r
  plain_rest e d ds r i h = subst (λ l. Behind Region (unit_regions decls) (flat_map regions_of (declarations_of d) ++ (l ++ regions_from decls (e ++ declarations_of d) ds)) r) (no_instances (is_first_configuration e) d i) h

  globals_at : (e : List Declaration) (b : List (List ℕ)) (q : List Region) (ds : List (Decl ℕ)) (r k : ℕ) → Every FirstPlaced (placed_from e b q ds) → Rest e ds r → Functions ds k → Every GlobalAt (globals_from decls (unit_names decls) r k ds)
  globals_at e b q [] r k f h g = tt
  globals_at e b q (declaration.Globals s ∷ ds) r k f h g =
      let rest = regions_from decls (e ++ globals_of_section s) ds in
      let own : flat_map regions_of (globals_of_section s) ≡ flat_map region_of_global (sections_written (s ∷ [])) = ap (flat_map regions_of) (sym (append-nil (globals_of_section s))) ∙ sections_regions (s ∷ []) in
      let t = variables_at (sections_written (s ∷ [])) r rest (subst (λ l. Behind Region (unit_regions decls) (l ++ rest) r) own (plain_rest e (declaration.Globals s) ds r tt h)) in
      every_append GlobalAt (variables_declared decls (unit_names decls) r (sections_written (s ∷ []))) (globals_from decls (unit_names decls) (r + region_count decls (unit_names decls) (sections_written (s ∷ []))) k ds) t.each
      (globals_at (e ++ globals_of_section s) _ _ ds (r + region_count decls (unit_names decls) (sections_written (s ∷ []))) k (every_back FirstPlaced (place_each e b q (globals_of_section s)) _ f) t.behind g)
  globals_at e b q (declaration.Function x ∷ ds) r k f h g = (
    (x, behind_here (functions_in decls) (functions_in ds) k x g, refl),
    globals_at (e ++ a_function x ∷ []) _ _ ds r (suc k) f.1 (plain_rest e (declaration.Function x) ds r tt h) (behind_next (functions_in decls) (functions_in ds) k x g),
  )
  globals_at e b q (declaration.Configuration c ∷ ds) r k f h g =
      let ws = sections_written (configuration_globals c) in
      let instances = map of_instance c.instances in
      let rest = regions_from decls (e ++ declarations_of (declaration.Configuration c)) ds in
      let own : flat_map regions_of (declarations_of (declaration.Configuration c)) ≡ flat_map region_of_global ws = sections_regions (configuration_globals c) in
      let first : instances_of (is_first_configuration e) (declaration.Configuration c) ≡ instances = ap (λ x. instances_of x (declaration.Configuration c)) (f.0) in
      let all = subst (λ l. Behind Region (unit_regions decls) (flat_map region_of_global ws ++ (l ++ rest)) r) first (subst (λ l. Behind Region (unit_regions decls) (l ++ (instances_of (is_first_configuration e) (declaration.Configuration c) ++ rest)) r) own h) in
      let t = variables_at ws r (instances ++ rest) all in
      let n = region_count decls (unit_names decls) ws in
      let long = instances_long c.instances in
      let z : (r + n) + length instances ≡ r + (n + length c.instances) = omega (arith, long) in
      every_append GlobalAt (variables_declared decls (unit_names decls) r ws) (globals_from decls (unit_names decls) (r + (n + length c.instances)) k ds) t.each
      (globals_at (e ++ declarations_of (declaration.Configuration c)) _ _ ds (r + (n + length c.instances)) k (every_back FirstPlaced (place_each e b q (declarations_of (declaration.Configuration c))) _ f)
      (subst (Behind Region (unit_regions decls) rest) z (behind_part (unit_regions decls) instances rest (r + n) t.behind)) g)
  globals_at e b q (declaration.Types l ts ∷ ds) r k f h g =
      let rest = regions_from decls (e ++ map an_entry ts) ds in
      globals_at (e ++ map an_entry ts) _ _ ds r k (every_back FirstPlaced (place_each e b q (map an_entry ts)) _ f) (subst (λ l. Behind Region (unit_regions decls) (l ++ rest) r) (none_entries ts) (plain_rest e (declaration.Types l ts) ds r tt h)) g
  globals_at e b q (declaration.Interface d ∷ ds) r k f h g = globals_at (e ++ an_interface d ∷ []) _ _ ds r k f.1 (plain_rest e (declaration.Interface d) ds r tt h) g
  globals_at e b q (declaration.Class d ∷ ds) r k f h g = globals_at (e ++ a_class d ∷ []) _ _ ds r k f.1 (plain_rest e (declaration.Class d) ds r tt h) g
  globals_at e b q (declaration.Program d ∷ ds) r k f h g = globals_at (e ++ a_program d ∷ []) _ _ ds r k f.1 (plain_rest e (declaration.Program d) ds r tt h) g

  -- ---- all of them

  first_of : (i : ℕ) (x : Placed) (d : Declaration) → sort_faults decls i x d ≡ [] → IsFirst x d
  first_of i x (a_configuration c) h =
      let n = number_among is_configuration x in
      let a = none_in _ (regions_faults decls (x.regions ++ flat_map region_of_global (sections_written (configuration_globals c))) (instance_regions decls (is_first_configuration x.earlier) c)) h in
      let b = none_in _ (tasks_and_instances _ c) a.0 in
      let l = ltb-false 0 n (not_when (nat_lt 0 n) E15 c.line (none_in (configuration_name_faults x.before c) (second_configuration c.line n) b.0).1) in
      let z : n ≡ 0 = omega (arith, l) in
      none_first x.earlier z
  first_of i x (a_global g) h = tt
  first_of i x (an_entry t) h = tt
  first_of i x (an_interface d) h = tt
  first_of i x (a_class d) h = tt
  first_of i x (a_function d) h = tt
  first_of i x (a_program d) h = tt

  firsts : BreaksNothing decls → Every FirstPlaced (placed decls)
  firsts good = every_from FirstPlaced (placed decls) (λ i x e. first_of i x x.declaration (none_there decls good i x e).1)

  abbrev all_globals : DeclaredNames → List DeclaredGlobal
  all_globals a = a.globals

  pub globals_are : BreaksNothing decls → Every GlobalAt (unit_names decls).globals
  unfolding names_from placed
  globals_are good =
      subst (Every GlobalAt) (ap all_globals (told_laws.settled decls))
      (globals_at [] [] [] decls 0 0 (firsts good) (all_behind (unit_regions decls)) (all_behind (functions_in decls)))
