-- What a unit says of its types and globals, beside its declarations.
use Rattle.std.proofs.Common.{◌≡◌, ℕ, suc, ◌+◌, Bool, true, false, List, [], ◌∷◌, ◌++◌, map, length, refl, sym, ap, ◌∙◌}
use Rattle.std.specs.Prelude.{flat_map}
use Rattle.std.specs.Option.{is_some}
use Rattle.st_tree.specs.declared.declaration.Item.{Item}
use Rattle.st_tree.specs.declared.declaration.Section.{Section}
use Rattle.st_tree.specs.declared.declaration.TypeDecl.{TypeDecl}
use Rattle.st_tree.specs.declared.unit.Decl.{Decl}
use Rattle.st_tree.specs.declared.unit.Decl.TheVariants as declaration
use Rattle.st_rules.specs.declared.names.DeclaredType.{DeclaredType}
use Rattle.st_rules.specs.declared.names.DeclaredGlobal.{DeclaredGlobal}
use Rattle.st_rules.specs.declared.names.DeclaredGlobal.TheVariants as global
use Rattle.st_rules.specs.declared.names.DeclaredNames.{DeclaredNames}
use Rattle.st_rules.specs.Scope.{Scope, global_name}
use Rattle.st_unit_rules.specs.declared_names.Declarations.{Declaration, an_entry, a_global, an_interface, a_class, a_function, a_program, a_configuration, declarations_of, globals_of_item, globals_of_section, configuration_globals}
use Rattle.st_unit_rules.specs.declared_names.UnitNames.{unit_scope, routine_declared, entry_kind, entries_declared, types_declared, variables_declared, region_count, globals_from}
use Rattle.st_unit_rules.specs.declared_names.Variables.{Written, item_written, section_written, sections_written, constant_target, constant_of}
use Rattle.st_unit_rules.specs.declared_names.WrittenTypes.{type_written}
use Rattle.st_unit_rules.specs.Cycles.{is_type, is_global_or_function}
use Rattle.resolution_order.specs.told_laws.ToldLaws.{Every}
use Rattle.resolution_order.proofs.told_laws.Tells.{pick}
use Rattle.accepted_texts.proofs.told_units.Rows.{Rows, no_rows, skips, takes, rows-append, rows-skip}

-- ---- globals among declarations

abbrev pub AreGlobals : List Declaration → List Written → Type 0
AreGlobals [] [] = Unit {0}
AreGlobals (a_global g ∷ ds) (w ∷ ws) = (g.written ≡ w) × AreGlobals ds ws
AreGlobals _ _ = ⊥

globals-append : (ds es : List Declaration) (ws xs : List Written) → AreGlobals ds ws → AreGlobals es xs → AreGlobals (ds ++ es) (ws ++ xs)
globals-append [] es [] xs h k = k
globals-append (a_global g ∷ ds) es (w ∷ ws) xs h k = (h.0, globals-append ds es ws xs h.1 k)
globals-append [] es (w ∷ ws) xs h k = absurd h
globals-append (a_global g ∷ ds) es [] xs h k = absurd h
globals-append (d ∷ ds) es ws xs h k = absurd h

item-globals : (s : Section ℕ) (item : Item ℕ) (b : Bool) (ws : List Written) → AreGlobals (globals_of_item s item b ws) ws
item-globals s item b [] = tt
item-globals s item b (w ∷ ws) = (refl, item-globals s item false ws)

items-globals : (s : Section ℕ) (items : List (Item ℕ)) → AreGlobals (flat_map (λ item. globals_of_item s item true (item_written s item)) items) (flat_map (item_written s) items)
items-globals s [] = tt
items-globals s (item ∷ items) = globals-append (globals_of_item s item true (item_written s item)) _ (item_written s item) _ (item-globals s item true (item_written s item)) (items-globals s items)

pub section-globals : (s : Section ℕ) → AreGlobals (globals_of_section s) (section_written s)
section-globals s = items-globals s s.items

pub sections-globals : (ss : List (Section ℕ)) → AreGlobals (flat_map globals_of_section ss) (sections_written ss)
sections-globals [] = tt
sections-globals (s ∷ ss) = globals-append (globals_of_section s) (flat_map globals_of_section ss) (section_written s) (sections_written ss) (section-globals s) (sections-globals ss)

and-none : (ds : List Declaration) (ws : List Written) → AreGlobals ds ws → AreGlobals ds (ws ++ [])
and-none [] [] h = tt
and-none (a_global g ∷ ds) (w ∷ ws) h = (h.0, and-none ds ws h.1)
and-none [] (w ∷ ws) h = absurd h
and-none (a_global g ∷ ds) [] h = absurd h
and-none (d ∷ ds) ws h = absurd h

no-types : (ds : List Declaration) (ws : List Written) → AreGlobals ds ws → Every (λ d. is_type d ≡ false) ds
no-types [] [] h = tt
no-types (a_global g ∷ ds) (w ∷ ws) h = (refl, no-types ds ws h.1)
no-types [] (w ∷ ws) h = tt
no-types (a_global g ∷ ds) [] h = absurd h
no-types (d ∷ ds) ws h = absurd h

module _ (decls : List (Decl ℕ)) (names : DeclaredNames) where
  abbrev pub unit : Scope
  unit = unit_scope decls names

  -- ---- types

  abbrev pub KindOf : Declaration → DeclaredType → Type 0
  KindOf (an_entry t) d = (n : ℕ) × (d.kind ≡ entry_kind decls names n t.body)
  KindOf (a_class c) d = is_some d.kind ≡ true
  KindOf (an_interface c) d = is_some d.kind ≡ true
  KindOf _ d = ⊥

  abbrev pub TypeRows : List Declaration → List DeclaredType → Type 0
  TypeRows ds ts = Rows is_type (λ (t : DeclaredType). t.name) KindOf ds ts

  entries-rows : (n : ℕ) (ts : List (TypeDecl ℕ)) → TypeRows (map an_entry ts) (entries_declared decls names n ts)
  entries-rows n [] = no_rows
  entries-rows n (t ∷ ts) = takes (an_entry t) (map an_entry ts) _ (entries_declared decls names (suc n) ts) refl refl (n, refl) (entries-rows (suc n) ts)

  skipped : (es ds : List Declaration) (ts : List DeclaredType) → Every (λ d. is_type d ≡ false) es → TypeRows ds ts → TypeRows (es ++ ds) ts
  skipped es ds ts h k = rows-append is_type (λ (t : DeclaredType). t.name) KindOf es ds [] ts (rows-skip is_type (λ (t : DeclaredType). t.name) KindOf es h) k

  pub types-rows : (n c i : ℕ) (ds : List (Decl ℕ)) → TypeRows (flat_map declarations_of ds) (types_declared decls names n c i ds)
  types-rows n c i [] = no_rows
  types-rows n c i (declaration.Types l ts ∷ ds) =
      rows-append is_type (λ (t : DeclaredType). t.name) KindOf (map an_entry ts) (flat_map declarations_of ds) (entries_declared decls names n ts) (types_declared decls names (n + length ts) c i ds) (entries-rows n ts) (types-rows (n + length ts) c i ds)
  types-rows n c i (declaration.Class d ∷ ds) = takes (a_class d) (flat_map declarations_of ds) _ (types_declared decls names n (suc c) i ds) refl refl refl (types-rows n (suc c) i ds)
  types-rows n c i (declaration.Interface d ∷ ds) = takes (an_interface d) (flat_map declarations_of ds) _ (types_declared decls names n c (suc i) ds) refl refl refl (types-rows n c (suc i) ds)
  types-rows n c i (declaration.Globals s ∷ ds) = skipped (globals_of_section s) (flat_map declarations_of ds) (types_declared decls names n c i ds) (no-types (globals_of_section s) (section_written s) (section-globals s)) (types-rows n c i ds)
  types-rows n c i (declaration.Function d ∷ ds) = skips (a_function d) (flat_map declarations_of ds) (types_declared decls names n c i ds) refl (types-rows n c i ds)
  types-rows n c i (declaration.Program d ∷ ds) = skips (a_program d) (flat_map declarations_of ds) (types_declared decls names n c i ds) refl (types-rows n c i ds)
  types-rows n c i (declaration.Configuration d ∷ ds) =
      skips (a_configuration d) (flat_map globals_of_section (configuration_globals d) ++ flat_map declarations_of ds) (types_declared decls names n c i ds) refl
      (skipped (flat_map globals_of_section (configuration_globals d)) (flat_map declarations_of ds) (types_declared decls names n c i ds) (no-types _ (sections_written (configuration_globals d)) (sections-globals (configuration_globals d))) (types-rows n c i ds))

  -- ---- globals

  abbrev pub GlobalOf : Declaration → DeclaredGlobal → Type 0
  GlobalOf (a_global g) (global.Variable v) = (v.constant ≡ g.written.constant) × (v.kind ≡ type_written unit g.written.item.kind) × (g.written.constant ≡ true → v.target ≡ constant_target (constant_of unit g.written))
  GlobalOf (a_function f) (global.Function k r) = r ≡ routine_declared unit f.name.text [] f.result f.sections
  GlobalOf _ _ = ⊥

  abbrev pub GlobalRows : List Declaration → List DeclaredGlobal → Type 0
  GlobalRows ds gs = Rows is_global_or_function global_name GlobalOf ds gs

  variables-rows : (r : ℕ) (ds : List Declaration) (ws : List Written) → AreGlobals ds ws → GlobalRows ds (variables_declared decls names r ws)
  variables-rows r [] [] h = no_rows
  variables-rows r (a_global g ∷ ds) (w ∷ ws) h =
      pick (GlobalRows (a_global g ∷ ds)) w.constant _ _
      (λ e. takes (a_global g) ds _ (variables_declared decls names r ws) refl (ap (λ (x : Written). x.name.text) h.0) (sym (ap (λ (x : Written). x.constant) h.0), sym (ap (λ (x : Written). type_written unit x.item.kind) h.0), λ q. sym (ap (λ (x : Written). constant_target (constant_of unit x)) h.0)) (variables-rows r ds ws h.1))
      (λ e. takes (a_global g) ds _ (variables_declared decls names (suc r) ws) refl (ap (λ (x : Written). x.name.text) h.0) (sym (ap (λ (x : Written). x.constant) h.0), sym (ap (λ (x : Written). type_written unit x.item.kind) h.0), λ q. absurd (differs (sym q ∙ ap (λ (x : Written). x.constant) h.0 ∙ e))) (variables-rows (suc r) ds ws h.1))
    where
      differs : true ≡ false → ⊥
      differs e = cc
  variables-rows r [] (w ∷ ws) h = absurd h
  variables-rows r (a_global g ∷ ds) [] h = absurd h
  variables-rows r (d ∷ ds) ws h = absurd h

  appended : (es ds : List Declaration) (xs ys : List DeclaredGlobal) → GlobalRows es xs → GlobalRows ds ys → GlobalRows (es ++ ds) (xs ++ ys)
  appended es ds xs ys h k = rows-append is_global_or_function global_name GlobalOf es ds xs ys h k

  passed : (es ds : List Declaration) (ys : List DeclaredGlobal) → Every (λ d. is_global_or_function d ≡ false) es → GlobalRows ds ys → GlobalRows (es ++ ds) ys
  passed es ds ys h k = appended es ds [] ys (rows-skip is_global_or_function global_name GlobalOf es h) k

  entries-pass : (ts : List (TypeDecl ℕ)) → Every (λ d. is_global_or_function d ≡ false) (map an_entry ts)
  entries-pass [] = tt
  entries-pass (t ∷ ts) = (refl, entries-pass ts)

  pub globals-rows : (r k : ℕ) (ds : List (Decl ℕ)) → GlobalRows (flat_map declarations_of ds) (globals_from decls names r k ds)
  globals-rows r k [] = no_rows
  globals-rows r k (declaration.Globals s ∷ ds) =
      appended (globals_of_section s) (flat_map declarations_of ds) (variables_declared decls names r (sections_written (s ∷ []))) (globals_from decls names (r + region_count decls names (sections_written (s ∷ []))) k ds)
      (variables-rows r (globals_of_section s) (sections_written (s ∷ [])) (and-none (globals_of_section s) (section_written s) (section-globals s)))
      (globals-rows (r + region_count decls names (sections_written (s ∷ []))) k ds)
  globals-rows r k (declaration.Function f ∷ ds) = takes (a_function f) (flat_map declarations_of ds) _ (globals_from decls names r (suc k) ds) refl refl refl (globals-rows r (suc k) ds)
  globals-rows r k (declaration.Configuration c ∷ ds) =
      let m = r + (region_count decls names (sections_written (configuration_globals c)) + length c.instances) in
      skips (a_configuration c) (flat_map globals_of_section (configuration_globals c) ++ flat_map declarations_of ds) (variables_declared decls names r (sections_written (configuration_globals c)) ++ globals_from decls names m k ds) refl
      (appended (flat_map globals_of_section (configuration_globals c)) (flat_map declarations_of ds) (variables_declared decls names r (sections_written (configuration_globals c))) (globals_from decls names m k ds)
      (variables-rows r (flat_map globals_of_section (configuration_globals c)) (sections_written (configuration_globals c)) (sections-globals (configuration_globals c)))
      (globals-rows m k ds))
  globals-rows r k (declaration.Types l ts ∷ ds) = passed (map an_entry ts) (flat_map declarations_of ds) (globals_from decls names r k ds) (entries-pass ts) (globals-rows r k ds)
  globals-rows r k (declaration.Class d ∷ ds) = skips (a_class d) (flat_map declarations_of ds) (globals_from decls names r k ds) refl (globals-rows r k ds)
  globals-rows r k (declaration.Interface d ∷ ds) = skips (an_interface d) (flat_map declarations_of ds) (globals_from decls names r k ds) refl (globals-rows r k ds)
  globals-rows r k (declaration.Program d ∷ ds) = skips (a_program d) (flat_map declarations_of ds) (globals_from decls names r k ds) refl (globals-rows r k ds)
