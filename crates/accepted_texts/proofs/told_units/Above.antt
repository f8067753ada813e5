-- In a unit that breaks no rule no class is its own base.
use Rattle.std.proofs.Common.{◌≡◌, ℕ, zero, suc, ◌+◌, Bool, true, false, List, [], ◌∷◌, ◌++◌, map, length, Option, Some, None, refl, sym, ap, ◌∙◌, arith}
use Rattle.std.specs.Prelude.{if◌then◌else◌, flat_map, option_map, option_and_then, slice_get, ◌&&◌}
use Rattle.std.specs.List.{list_any}
use Rattle.std.proofs.lemmas.Option.{slice_get-map}
use Rattle.plc_text.specs.Words.{same}
use Rattle.st_tree.specs.declared.declaration.ClassDecl.{ClassDecl}
use Rattle.st_tree.specs.declared.name.Used.{Used}
use Rattle.st_tree.specs.declared.unit.Decl.{Decl}
use Rattle.st_tree.specs.declared.unit.Decl.TheVariants as declaration
use Rattle.st_rules.specs.Chains.{is_among, leads_within, Leads, itself, onward}
use Rattle.st_rules.specs.Classes.{classes_in, base_of, class_named}
use Rattle.st_rules.specs.Faults.{when}
use Rattle.st_rules.specs.Named.{first_place}
use Rattle.st_rules.proofs.Booleans.{any-parts, any-among, none≢some, some-same, true≢false}
use Rattle.st_rules.proofs.ClassLaws.{bases_within}
use Rattle.st_rules.proofs.LeadsLaws.{IsWithin, leads_decided}
use Rattle.st_unit_rules.specs.declared_names.Declarations.{Declaration, an_entry, an_interface, a_class, a_function, a_program, a_configuration, Placed, declarations, declarations_of, globals_of_section, configuration_globals, heading_line, is_class, name_of, placed}
use Rattle.st_unit_rules.specs.Cycles.{place_from, class_place, base_place, contained, contained_at, contains_itself, cycle_faults}
use Rattle.st_unit_rules.specs.UnitRefusal.{BreaksNothing}
use Rattle.resolution_order.specs.told_laws.ToldLaws.{Every}
use Rattle.accepted_texts.proofs.unfolding_laws.CycleLaws.{none_in, all_placed, none_there}
use Rattle.accepted_texts.proofs.told_units.TypeLaws.{holds-not}
use Rattle.accepted_texts.proofs.told_units.Rows.{Rows, no_rows, skips, takes, rows-append, rows-skip, chosen, not-chosen, added-first, among_front}
use Rattle.declared_graph.proofs.BoundLaws.{contained_within}
use Rattle.accepted_texts.proofs.told_units.Classes.{bases, from-base}
use Rattle.accepted_texts.proofs.told_units.UnitRows.{section-globals, sections-globals}
use Rattle.accepted_texts.proofs.told_units.Whole.{globals-none, entries-none}

abbrev IsOf : Declaration → ClassDecl ℕ → Type 0
IsOf (a_class d) c = d ≡ c
IsOf _ c = ⊥

abbrev named : ClassDecl ℕ → List ℕ
named c = c.name.text

abbrev ClassRows : List Declaration → List (ClassDecl ℕ) → Type 0
ClassRows ds cs = Rows is_class named IsOf ds cs

passed : (es ds : List Declaration) (cs : List (ClassDecl ℕ)) → Every (λ d. is_class d ≡ false) es → ClassRows ds cs → ClassRows (es ++ ds) cs
passed es ds cs h k = rows-append is_class named IsOf es ds [] cs (rows-skip is_class named IsOf es h) k

class-rows : (ds : List (Decl ℕ)) → ClassRows (flat_map declarations_of ds) (classes_in ds)
class-rows [] = no_rows
class-rows (declaration.Class d ∷ ds) = takes (a_class d) (flat_map declarations_of ds) d (classes_in ds) refl refl refl (class-rows ds)
class-rows (declaration.Types l ts ∷ ds) = passed (map an_entry ts) (flat_map declarations_of ds) (classes_in ds) (entries-none ts) (class-rows ds)
class-rows (declaration.Globals s ∷ ds) = passed (globals_of_section s) (flat_map declarations_of ds) (classes_in ds) (globals-none (globals_of_section s) _ (section-globals s)) (class-rows ds)
class-rows (declaration.Interface d ∷ ds) = skips (an_interface d) (flat_map declarations_of ds) (classes_in ds) refl (class-rows ds)
class-rows (declaration.Function d ∷ ds) = skips (a_function d) (flat_map declarations_of ds) (classes_in ds) refl (class-rows ds)
class-rows (declaration.Program d ∷ ds) = skips (a_program d) (flat_map declarations_of ds) (classes_in ds) refl (class-rows ds)
class-rows (declaration.Configuration c ∷ ds) =
    skips (a_configuration c) (flat_map globals_of_section (configuration_globals c) ++ flat_map declarations_of ds) (classes_in ds) refl
    (passed (flat_map globals_of_section (configuration_globals c)) (flat_map declarations_of ds) (classes_in ds) (globals-none (flat_map globals_of_section (configuration_globals c)) _ (sections-globals (configuration_globals c))) (class-rows ds))

-- the place of a class by its number
abbrev next : Bool → ℕ → (ℕ → ℕ) → ℕ
next true zero k = 0
next true (suc c) k = suc (k c)
next false c k = suc (k c)

abbrev spot : List Declaration → ℕ → ℕ
spot [] c = 0
spot (d ∷ ds) c = next (is_class d) c (spot ds)

at-spot : (ds : List Declaration) (cs : List (ClassDecl ℕ)) (c : ℕ) (x : ClassDecl ℕ) → ClassRows ds cs → slice_get cs c ≡ Some x → slice_get ds (spot ds c) ≡ Some (a_class x)
at-spot _ _ c x no_rows e = absurd (none≢some e)
at-spot _ _ c x (skips d ds cs f k) e = ap (λ b. slice_get (d ∷ ds) (next b c (spot ds))) f ∙ at-spot ds cs c x k e
at-spot _ _ zero x (takes (a_class d) ds y cs f n r k) e = ap (λ z. Some (a_class z)) (r ∙ some-same e)
at-spot _ _ (suc c) x (takes (a_class d) ds y cs f n r k) e = at-spot ds cs c x k e
at-spot _ _ c x (takes d ds y cs f n r k) e = absurd r

by-first : (ds : List Declaration) (cs : List (ClassDecl ℕ)) (n : ℕ) (name : List ℕ) (b : ℕ) → ClassRows ds cs → first_place name (map (λ (c : ClassDecl ℕ). c.name.text) cs) ≡ Some b → place_from is_class name n ds ≡ Some (n + spot ds b)
by-first _ _ n name b no_rows e = absurd (none≢some e)
by-first _ _ n name b (skips d ds cs f k) e =
    let z : suc n + spot ds b ≡ n + suc (spot ds b) = omega arith in
    not-chosen (is_class d && same (name_of d).text name) (Some n) (place_from is_class name (suc n) ds) (ap (λ t. t && same (name_of d).text name) f)
    ∙ by-first ds cs (suc n) name b k e ∙ ap Some z ∙ ap (λ t. Some (n + next t b (spot ds))) (sym f)
by-first _ _ n name b (takes (a_class d) ds y cs f m r k) e = by (λ c q. by-first ds cs (suc n) name c k q) (same y.name.text name) refl (first_place name (map (λ (c : ClassDecl ℕ). c.name.text) cs)) refl e
  where
    tests : same d.name.text name ≡ same y.name.text name
    tests = ap (λ t. same t name) m

    by : ((c : ℕ) → first_place name (map (λ (c : ClassDecl ℕ). c.name.text) cs) ≡ Some c → place_from is_class name (suc n) ds ≡ Some (suc n + spot ds c)) → (t : Bool) → same y.name.text name ≡ t → (o : Option ℕ) → first_place name (map (λ (c : ClassDecl ℕ). c.name.text) cs) ≡ o
        → (if t then Some 0 else option_map suc o) ≡ Some b → place_from is_class name n (a_class d ∷ ds) ≡ Some (n + spot (a_class d ∷ ds) b)
    by later true t o q h =
        let z : n ≡ n + 0 = omega arith in
        chosen (same d.name.text name) (Some n) (place_from is_class name (suc n) ds) (tests ∙ t) ∙ ap Some z ∙ ap (λ c. Some (n + spot (a_class d ∷ ds) c)) (some-same h)
    by later false t None q h = absurd (none≢some h)
    by later false t (Some c) q h =
        let z : suc n + spot ds c ≡ n + suc (spot ds c) = omega arith in
        not-chosen (same d.name.text name) (Some n) (place_from is_class name (suc n) ds) (tests ∙ t) ∙ later c q ∙ ap Some z ∙ ap (λ c. Some (n + spot (a_class d ∷ ds) c)) (some-same h)
by-first _ _ n name b (takes d ds y cs f m r k) e = absurd r

module _ (decls : List (Decl ℕ)) (good : BreaksNothing decls) where
  abbrev cs : List (ClassDecl ℕ)
  cs = classes_in decls

  rows : ClassRows (declarations decls) (classes_in decls)
  unfolding declarations
  rows = class-rows decls

  -- ---- a base is contained

  base-found : (b : ℕ) (o : Option (Used ℕ)) → option_and_then (λ (u : Used ℕ). class_named (classes_in decls) u.text) o ≡ Some b → is_among (spot (declarations decls) b) (base_place (declarations decls) o) ≡ true
  base-found b None e = absurd (none≢some e)
  base-found b (Some u) e =
      let z : 0 + spot (declarations decls) b ≡ spot (declarations decls) b = omega arith in
      added-first (spot (declarations decls) b) (class_place (declarations decls) u.text) [] (by-first (declarations decls) (classes_in decls) 0 u.text b rows e ∙ ap Some z)

  base-in : (c b : ℕ) (o : Option (ClassDecl ℕ)) → slice_get (classes_in decls) c ≡ o → option_and_then (λ (d : ClassDecl ℕ). option_and_then (λ (u : Used ℕ). class_named (classes_in decls) u.text) d.base) o ≡ Some b
      → is_among (spot (declarations decls) b) (contained_at (declarations decls) (spot (declarations decls) c)) ≡ true
  base-in c b None q e = absurd (none≢some e)
  base-in c b (Some d) q e =
      ap (λ o. is_among (spot (declarations decls) b) (contained (declarations decls) o)) (at-spot (declarations decls) (classes_in decls) c d rows q)
      ∙ among_front (spot (declarations decls) b) (base_place (declarations decls) d.base) _ (base-found b d.base e)

  edge : (c b : ℕ) → base_of (classes_in decls) c ≡ Some b → is_among (spot (declarations decls) b) (contained_at (declarations decls) (spot (declarations decls) c)) ≡ true
  edge c b e = base-in c b (slice_get (classes_in decls) c) refl e

  leads : (i j : ℕ) → Leads (bases (base_of (classes_in decls))) i j → Leads (contained_at (declarations decls)) (spot (declarations decls) i) (spot (declarations decls) j)
  leads _ _ (itself i) = itself (spot (declarations decls) i)
  leads _ _ (onward i k j m l) = onward (spot (declarations decls) i) (spot (declarations decls) k) (spot (declarations decls) j) (edge i k (from-base (base_of (classes_in decls) i) k m)) (leads k j l)

  -- ---- none contains itself

  no-cycle : (i : ℕ) (d : Declaration) → slice_get (declarations decls) i ≡ Some d → contains_itself (declarations decls) i ≡ false
  unfolding cycle_faults
  no-cycle i d e = by (slice_get (placed decls) i) refl (sym (slice_get-map (λ (x : Placed). x.declaration) (placed decls) i) ∙ ap (λ xs. slice_get xs i) (all_placed decls) ∙ e)
    where
      by : (o : Option Placed) → slice_get (placed decls) i ≡ o → option_map (λ (x : Placed). x.declaration) o ≡ Some d → contains_itself (declarations decls) i ≡ false
      by None q h = absurd (none≢some h)
      by (Some x) q h =
          let f = (none_there decls good i x q).0 in
          holds-not (contains_itself (declarations decls) i) _ (heading_line x.declaration) (none_in (when (contains_itself (declarations decls) i) _ (heading_line x.declaration)) _ f).0

  within : IsWithin (bases (base_of (classes_in decls))) (length (classes_in decls))
  within = record { within = λ i k h. (bases_within (classes_in decls)).within i k (from-base (base_of (classes_in decls) i) k h) }

  -- no class is its own base
  pub none-above-itself : (c : ℕ) → list_any (λ k. leads_within (bases (base_of (classes_in decls))) (length (classes_in decls)) k c) (bases (base_of (classes_in decls)) c) ≡ false
  none-above-itself c = by (list_any (λ k. leads_within (bases (base_of (classes_in decls))) (length (classes_in decls)) k c) (bases (base_of (classes_in decls)) c)) refl
    where
      there : (o : Option (ClassDecl ℕ)) → slice_get (classes_in decls) c ≡ o → (b : ℕ) → option_and_then (λ (d : ClassDecl ℕ). option_and_then (λ (u : Used ℕ). class_named (classes_in decls) u.text) d.base) o ≡ Some b → (d : ClassDecl ℕ) × (slice_get (classes_in decls) c ≡ Some d)
      there None q b e = absurd (none≢some e)
      there (Some d) q b e = (d, q)

      by : (t : Bool) → list_any (λ k. leads_within (bases (base_of (classes_in decls))) (length (classes_in decls)) k c) (bases (base_of (classes_in decls)) c) ≡ t → t ≡ false
      by false q = refl
      by true q =
          let a = any-parts (λ k. leads_within (bases (base_of (classes_in decls))) (length (classes_in decls)) k c) (bases (base_of (classes_in decls)) c) q in
          let b = from-base (base_of (classes_in decls) c) a.number a.among in
          let l = leads a.number c ((leads_decided (bases (base_of (classes_in decls))) (length (classes_in decls)) within a.number c).0 a.passes) in
          let w = (leads_decided (contained_at (declarations decls)) (length (declarations decls)) (contained_within (declarations decls)) (spot (declarations decls) a.number) (spot (declarations decls) c)).1 l in
          let d = there (slice_get (classes_in decls) c) refl a.number b in
          let t = any-among (λ k. leads_within (contained_at (declarations decls)) (length (declarations decls)) k (spot (declarations decls) c)) (contained_at (declarations decls) (spot (declarations decls) c)) (spot (declarations decls) a.number) (edge c a.number b) w in
          absurd (true≢false (sym t ∙ no-cycle (spot (declarations decls) c) (a_class d.0) (at-spot (declarations decls) (classes_in decls) c d.0 rows d.1)))
