-- The types of places in a unit have numbers of what the unit declares, so that the class or interface that a reference names is there.
use Rattle.std.proofs.Common.{◌≡◌, ℕ, ℤ, zero, suc, Bool, true, false, List, [], ◌∷◌, Option, Some, None, refl, sym, ap, ◌∙◌, subst, inl, inr, ◌⊎◌}
use Rattle.std.specs.Prelude.{if◌then◌else◌, filter, option_map, option_and_then, slice_get}
use Rattle.std.specs.Option.{is_none}
use Rattle.plc_text.specs.Words.{same}
use Rattle.st_types.specs.declared.st_type.StType.{StType, out-StType}
use Rattle.st_types.specs.declared.st_type.StType.TheVariants as type
use Rattle.st_types.specs.declared.st_type.StType.TheOpen.{StType-F}
use Rattle.st_tree.specs.declared.declaration.ClassDecl.{ClassDecl}
use Rattle.st_tree.specs.declared.declaration.InterfaceDecl.{InterfaceDecl}
use Rattle.st_tree.specs.declared.expression.Root.{Root}
use Rattle.st_tree.specs.declared.expression.Root.TheVariants as root
use Rattle.st_tree.specs.declared.program.Note.{Note}
use Rattle.st_tree.specs.declared.program.Program.{Program as Checked}
use Rattle.st_tree.specs.declared.type_spec.TypeSpec.{TypeSpec}
use Rattle.st_tree.specs.declared.unit.Decl.{Decl}
use Rattle.st_tree.specs.Expression.{Selector, Field, Index, Selectors, no_selectors, selector_then}
use Rattle.st_tree.specs.Expression as tree
use Rattle.st_rules.specs.declared.names.DeclaredClass.{DeclaredClass}
use Rattle.st_rules.specs.declared.names.DeclaredField.{DeclaredField}
use Rattle.st_rules.specs.declared.names.DeclaredGlobal.{DeclaredGlobal}
use Rattle.st_rules.specs.declared.names.DeclaredGlobal.TheVariants as global
use Rattle.st_rules.specs.declared.names.DeclaredNames.{DeclaredNames}
use Rattle.st_rules.specs.declared.names.DeclaredVariable.{DeclaredVariable}
use Rattle.st_rules.specs.Chains.{◌or_else◌, nearest}
use Rattle.st_rules.specs.declared.ids.MethodId.{MethodId}
use Rattle.st_rules.specs.Classes.{classes_in, base_of, chain, lookup}
use Rattle.st_rules.specs.Numbered.{each_numbered}
use Rattle.st_rules.specs.Interfaces.{interfaces_in}
use Rattle.st_rules.specs.Kinds.{element_at_level, element_type}
use Rattle.st_rules.specs.Places.{Standing, untold, a_value, own_instance, no_base, an_enumeration, a_value_of, standing_of, standing_type, meant_type, part_type, field_part, member_part, value_part, instance_part, part_of, referenced, dereferenced, indexed, count_expressions, selected, along, root_standing, this_standing, super_standing, name_standing, qualified_standing, placed, place_type}
use Rattle.st_rules.specs.Scope.{Scope, Meant, a_variable, values_of, of_untold, no_qualifier, Qualifier, first_named, global_name, global_meaning, global_named, is_external, is_inherited, variables_of, variable_named, is_of_instance, of_class, own_entry, base_entry, class_entry, local_entry, entry, method_meaning, enumerator_meaning, only_enumerator, meaning_behind, sought, dot_qualifier, field_named, instance_entry, instance_variable, value_of}
use Rattle.st_rules.specs.Scope as rules
use Rattle.st_rules.proofs.Booleans.{none≢some}
use Rattle.st_rules.proofs.ClassLaws.{bases_within}
use Rattle.st_unit_rules.specs.declared_names.UnitNames.{unit_names, unit_scope, class_scope, class_declared, names_from}
use Rattle.st_unit_rules.specs.declared_names.Variables.{Written, sections_written, sections_in}
use Rattle.st_unit_rules.specs.declared_names.WrittenTypes.{type_written}
use Rattle.st_unit_rules.specs.Checked.{IsChecked, TypedInterface}
use Rattle.st_unit_rules.specs.UnitRefusal.{BreaksNothing}
use Rattle.st_values.specs.Program.{Interface}
use Rattle.st_values.specs.View.{class_of, interfaces_from, program_of}
use Rattle.st_meaning.specs.st_frame.Promise.Types.{IsHeld, IsNamed}
use Rattle.resolution_order.specs.told_laws.ToldLaws.{Every}
use Rattle.resolution_order.proofs.told_laws.Telling.{told_laws}
use Rattle.accepted_texts.specs.told_units.Told.{AllIsTold}
use Rattle.accepted_texts.proofs.unfolding_laws.ListLaws.{there_below, every_at, every_means, if_there, each_get}
use Rattle.accepted_texts.proofs.unfolding_laws.DeclaredLaws.{variables_in_class}
use Rattle.accepted_texts.proofs.unfolding_laws.ChainLaws.{class_seen}
use Rattle.accepted_texts.proofs.unfolding_laws.NumberLaws.{IsClass, IsInterface, NumberedBy, NumberedWithin, Numbered, ToldNumbered, element_numbered, written_numbered, unit_numbered}
use Rattle.accepted_texts.proofs.told_units.Inner.{AreRows, members-rows}
use Rattle.name_laws.proofs.Rows.{every_named}
use Rattle.name_laws.proofs.Fields.{field_shown}
use Rattle.name_laws.proofs.Globals.{GlobalAt, globals_are}
use Rattle.name_laws.proofs.Members.{class_typed}

interface_seen : (is : List (InterfaceDecl Note)) (n : ℕ) (ds : List (InterfaceDecl Note)) (i : ℕ) (d : InterfaceDecl Note) → slice_get ds i ≡ Some d → (k : Interface) × (slice_get (interfaces_from is n ds) i ≡ Some k)
interface_seen is n [] i d e = absurd (none≢some e)
interface_seen is n (x ∷ ds) zero d e = (_, refl)
interface_seen is n (x ∷ ds) (suc i) d e = interface_seen is (suc n) ds i d e

no_array : (n : ℕ) (low high : ℤ) (of : StType) → StType-F.Enumeration n ≡ StType-F.Array low high of → ⊥
no_array n low high of q = cc

-- an enumeration, on which nothing stands
abbrev IsCounted : StType → Type 0
IsCounted (type.Enumeration n) = Unit {0}
IsCounted _ = ⊥

module _ (decls : List (Decl ℕ)) (p : Checked) (checked : IsChecked decls p) (good : BreaksNothing decls) (all : AllIsTold decls) where
  -- ---- what a reference names is there

  there_by : (t : StType) (level : StType-F StType) → out-StType t ≡ level → IsHeld t → NumberedBy decls (NumberedWithin decls 0) level → IsNamed (program_of p) t
  there_by (type.Reference c) level q h n =
      let s : IsClass decls c = subst (NumberedBy decls (NumberedWithin decls 0)) (sym q ∙ type.outs-Reference c) n in
      let y = class_typed decls p checked c s.item s.there in
      (class_of p.classes p.interfaces c y.0, class_seen p c y.0 y.1)
  there_by (type.Interface i) level q h n =
      let s : IsInterface decls i = subst (NumberedBy decls (NumberedWithin decls 0)) (sym q ∙ type.outs-Interface i) n in
      let y = if_there (TypedInterface decls) (slice_get (interfaces_in decls) i) (slice_get p.interfaces i) s.item s.there (each_get (TypedInterface decls) (interfaces_in decls) p.interfaces i checked.interfaces) in
      interface_seen p.interfaces 0 p.interfaces i y.0 y.1
  there_by _ level q h n = absurd h

  named_there : (t : StType) → Numbered decls t → IsHeld t → IsNamed (program_of p) t
  named_there t n h = there_by t (out-StType t) refl h (n.within 1)

  -- ---- types that may stand before a selector

  abbrev Fine : StType → Type 0
  Fine t = IsCounted t ⊎ Numbered decls t

  abbrev pub ToldFine : Option StType → Type 0
  ToldFine None = Unit {0}
  ToldFine (Some t) = Fine t

  pub fine : (o : Option StType) → ToldNumbered decls o → ToldFine o
  fine None h = tt
  fine (Some t) h = inr h

  instance_fine : (c : ℕ) → IsClass decls c → Numbered decls (type.Instance c)
  instance_fine c h = record { within = by }
    where
      by : (n : ℕ) → NumberedWithin decls n (type.Instance c)
      by zero = tt
      by (suc n) = subst (NumberedBy decls (NumberedWithin decls n)) (sym (type.outs-Instance c)) h

  element_fine : (t : StType) → Fine t → ToldFine (element_type t)
  element_fine t h = by (out-StType t) refl h
    where
      counted : (u : StType) (low high : ℤ) (of : StType) → IsCounted u → out-StType u ≡ StType-F.Array low high of → ⊥
      counted (type.Enumeration n) low high of c q = no_array n low high of (sym (type.outs-Enumeration n) ∙ q)
      counted _ low high of c q = absurd c

      by : (level : StType-F StType) → out-StType t ≡ level → Fine t → ToldFine (element_at_level level)
      by (StType-F.Array low high of) q (inl c) = absurd (counted t low high of c q)
      by (StType-F.Array low high of) q (inr n) = inr (element_numbered decls t of low high q n)
      by (StType-F.Elementary e) q f = tt
      by (StType-F.Enumeration e) q f = tt
      by (StType-F.Structure e) q f = tt
      by (StType-F.Instance e) q f = tt
      by (StType-F.Reference e) q f = tt
      by (StType-F.Interface e) q f = tt

  indexed_fine : (n : ℕ) (o : Option StType) → ToldFine o → ToldFine (indexed n o)
  indexed_fine zero o h = h
  indexed_fine (suc n) None h = indexed_fine n None tt
  indexed_fine (suc n) (Some t) h = indexed_fine n (element_type t) (element_fine t h)

  target_fine : (t : StType) → Fine t → ToldFine (standing_type (referenced t))
  target_fine (type.Reference c) (inr n) = inr (instance_fine c (subst (NumberedBy decls (NumberedWithin decls 0)) (type.outs-Reference c) (n.within 1)))
  target_fine (type.Reference c) (inl h) = absurd h
  target_fine _ h = tt

  of_standing : (o : Option StType) → ToldFine o → ToldFine (standing_type (standing_of o))
  of_standing None h = tt
  of_standing (Some t) h = h

  -- ---- variables

  abbrev pub KindFine : DeclaredVariable → Type 0
  KindFine v = ToldFine v.kind

  -- whatever is written in a scope of the unit
  abbrev WrittenFine : Scope → Type 0
  WrittenFine s = (t : TypeSpec ℕ) → ToldFine (type_written s t)

  pub written_fine : (c : Option ℕ) (m : Bool) (ls : List DeclaredVariable) → WrittenFine (record (unit_scope decls (unit_names decls)) { class = c; in_method = m; locals = ls })
  written_fine c m ls t = let s = record (unit_scope decls (unit_names decls)) { class = c; in_method = m; locals = ls } in fine (type_written s t) (written_numbered decls s t (unit_numbered decls))

  pub rows_fine : (s : Scope) → WrittenFine s → (ws : List Written) (vs : List DeclaredVariable) → AreRows s ws vs → Every KindFine vs
  rows_fine s f [] [] r = tt
  rows_fine s f [] (v ∷ vs) r = absurd r
  rows_fine s f (w ∷ ws) [] r = absurd r
  rows_fine s f (w ∷ ws) (v ∷ vs) r = (subst ToldFine (sym (r.0).2) (f w.item.kind), rows_fine s f ws vs r.1)

  filtered : (test : DeclaredVariable → Bool) (vs : List DeclaredVariable) → Every KindFine vs → Every KindFine (filter test vs)
  filtered test [] h = tt
  filtered test (v ∷ vs) h = by (test v) (filtered test vs h.1)
    where
      by : (b : Bool) → Every KindFine (filter test vs) → Every KindFine (if b then v ∷ filter test vs else filter test vs)
      by true k = (h.0, k)
      by false k = k

  classes_from : (n : ℕ) (ds : List (ClassDecl ℕ)) → Every (λ (k : DeclaredClass). Every KindFine k.variables) (each_numbered (λ c d. class_declared decls (unit_names decls) c d ∷ []) n ds)
  classes_from n [] = tt
  classes_from n (d ∷ ds) =
      let s = class_scope decls (unit_names decls) n in
      (rows_fine s (written_fine (Some n) false []) (sections_written (sections_in d.members)) _ (members-rows s _ _ (sections_written (sections_in d.members))), classes_from (suc n) ds)

  abbrev all_classes : DeclaredNames → List DeclaredClass
  all_classes a = a.classes

  classes_fine : Every (λ (k : DeclaredClass). Every KindFine k.variables) (unit_names decls).classes
  unfolding names_from
  classes_fine = subst (Every (λ (k : DeclaredClass). Every KindFine k.variables)) (ap all_classes (told_laws.settled decls)) (classes_from 0 (classes_in decls))

  abbrev GlobalFine : DeclaredGlobal → Type 0
  GlobalFine g = ToldFine (meant_type (Some (global_meaning g)))

  global_fine : (g : DeclaredGlobal) → GlobalAt decls g → GlobalFine g
  global_fine (global.Variable v) h = subst ToldFine (sym h.1) (written_fine None false [] (h.0).item.kind)
  global_fine (global.Function k r) h = tt

  globals_fine : Every GlobalFine (unit_names decls).globals
  globals_fine = every_means (GlobalAt decls) GlobalFine global_fine (unit_names decls).globals (globals_are decls good)

  -- ---- what a scope of the unit has

  module _ (c : Option ℕ) (m : Bool) (ls : List DeclaredVariable) (mine : (k : ℕ) → c ≡ Some k → IsClass decls k) (own : Every KindFine ls) where
    abbrev s : Scope
    s = record (unit_scope decls (unit_names decls)) { class = c; in_method = m; locals = ls }

    abbrev MeaningFine : Option Meant → Type 0
    MeaningFine o = ToldFine (meant_type o)

    either_fine : (a b : Option Meant) → MeaningFine a → MeaningFine b → MeaningFine (a or_else b)
    either_fine None b h k = k
    either_fine (Some x) b h k = h

    picked_fine : (b : Bool) (x y : Option Meant) → MeaningFine x → MeaningFine y → MeaningFine (if b then x else y)
    picked_fine true x y h k = h
    picked_fine false x y h k = k

    named_fine : (name : List ℕ) (gs : List DeclaredGlobal) → Every GlobalFine gs → MeaningFine (global_named name gs)
    named_fine name [] h = tt
    named_fine name (g ∷ gs) h = by (same (global_name g) name) (named_fine name gs h.1)
      where
        by : (b : Bool) → MeaningFine (global_named name gs) → MeaningFine (option_map global_meaning (if b then Some g else first_named global_name name gs))
        by true k = h.0
        by false k = k

    only_fine : (xs : List (ℕ × ℕ)) → MeaningFine (only_enumerator xs)
    only_fine [] = tt
    only_fine (x ∷ []) = inl tt
    only_fine (x ∷ (y ∷ xs)) = tt

    method_fine : (name : List ℕ) → MeaningFine (method_meaning s name)
    method_fine name = by c
      where
        found : (o : Option MethodId) → MeaningFine (option_map rules.a_method o)
        found None = tt
        found (Some id) = tt

        by : (o : Option ℕ) → MeaningFine (option_and_then (λ k. option_map rules.a_method (lookup (classes_in decls) k name)) o)
        by None = tt
        by (Some k) = found (lookup (classes_in decls) k name)

    abbrev HasFine : Option (Option ℕ × DeclaredVariable) → Type 0
    HasFine None = Unit {0}
    HasFine (Some e) = KindFine e.1

    entry_either : (a b : Option (Option ℕ × DeclaredVariable)) → HasFine a → HasFine b → HasFine (a or_else b)
    entry_either None b h k = k
    entry_either (Some e) b h k = h

    entry_nearest : (has : ℕ → Option (Option ℕ × DeclaredVariable)) → ((d : ℕ) → HasFine (has d)) → (cs : List ℕ) → HasFine (nearest has cs)
    entry_nearest has h [] = tt
    entry_nearest has h (d ∷ cs) = entry_either (has d) (nearest has cs) (h d) (entry_nearest has h cs)

    variables_fine : (d : ℕ) → Every KindFine (variables_of s d)
    unfolding variables_in_class
    variables_fine d = by (slice_get (unit_names decls).classes d) refl
      where
        by : (o : Option DeclaredClass) → slice_get (unit_names decls).classes d ≡ o → Every KindFine (variables_in_class o)
        by None e = tt
        by (Some k) e = every_at (λ (x : DeclaredClass). Every KindFine x.variables) (unit_names decls).classes d k classes_fine e

    class_one : (d : ℕ) (o : Option DeclaredVariable) → ((v : DeclaredVariable) → o ≡ Some v → KindFine v) → HasFine (of_class s d o)
    class_one d None h = tt
    class_one d (Some v) h = h v refl

    local_one : (o : Option DeclaredVariable) → ((v : DeclaredVariable) → o ≡ Some v → KindFine v) → HasFine (option_map (λ v. (None, v)) o)
    local_one None h = tt
    local_one (Some v) h = h v refl

    class_entry_fine : (name : List ℕ) (o : Option ℕ) → HasFine (class_entry s name o)
    class_entry_fine name None = tt
    class_entry_fine name (Some k) =
        entry_either (own_entry s name k) (nearest (base_entry s name) (chain (classes_in decls) k))
        (class_one k (variable_named name (variables_of s k)) (λ v e. every_named KindFine name (variables_of s k) v (variables_fine k) e))
        (entry_nearest (base_entry s name) (λ d. class_one d (variable_named name (filter is_inherited (variables_of s d))) (λ v e. every_named KindFine name (filter is_inherited (variables_of s d)) v (filtered is_inherited (variables_of s d) (variables_fine d)) e)) (chain (classes_in decls) k))

    behind_fine : (called : Bool) (name : List ℕ) (o : Option (Option ℕ × DeclaredVariable)) → HasFine o → MeaningFine (meaning_behind s called name o)
    behind_fine called name (Some e) h = picked_fine (is_external (e.1).sort) (global_named (e.1).name (unit_names decls).globals) (Some (a_variable e.0 e.1)) (named_fine (e.1).name (unit_names decls).globals globals_fine) h
    behind_fine called name None h =
        either_fine (if called then method_meaning s name else None) (global_named name (unit_names decls).globals or_else enumerator_meaning s name) (picked_fine called (method_meaning s name) None (method_fine name) tt)
        (either_fine (global_named name (unit_names decls).globals) (enumerator_meaning s name) (named_fine name (unit_names decls).globals globals_fine) (only_fine _))

    sought_fine : (called : Bool) (name : List ℕ) → MeaningFine (sought s called name)
    unfolding sought
    sought_fine called name =
        behind_fine called name (entry s name)
        (entry_either (local_entry s name) (class_entry s name c) (local_one (variable_named name ls) (λ v e. every_named KindFine name ls v own e)) (class_entry_fine name c))

    -- ---- places

    abbrev StandsFine : Standing → Type 0
    StandsFine b = ToldFine (standing_type b)

    name_fine : (name : List ℕ) → StandsFine (name_standing s name)
    name_fine name = of_standing (meant_type (sought s false name)) (sought_fine false name)

    qualified_fine : (q : Qualifier) (name : List ℕ) → StandsFine (qualified_standing s q name)
    qualified_fine (values_of n) name = tt
    qualified_fine of_untold name = tt
    qualified_fine no_qualifier name = name_fine name

    this_fine : (o : Option ℕ) → c ≡ o → StandsFine (this_standing s o)
    this_fine None e = tt
    this_fine (Some k) e = inr (instance_fine k (mine k e))

    found_of : Option ℕ → Standing
    found_of None = untold
    found_of (Some b) = own_instance b

    super_of : Option ℕ → Option (ClassDecl ℕ) → Standing
    super_of b None = untold
    super_of b (Some d) = if is_none d.base then no_base else found_of b

    super_seen : (k : ℕ) → super_standing s (Some k) ≡ super_of (base_of (classes_in decls) k) (slice_get (classes_in decls) k)
    unfolding found_of super_of
    super_seen k = refl

    super_found : (b : Option ℕ) (o : Option (ClassDecl ℕ)) → ((d : ℕ) → b ≡ Some d → IsClass decls d) → StandsFine (super_of b o)
    unfolding found_of super_of
    super_found b None h = tt
    super_found b (Some d) h = by (is_none d.base) b refl
      where
        by : (x : Bool) (r : Option ℕ) → b ≡ r → StandsFine (if x then no_base else found_of r)
        by true r e = tt
        by false None e = tt
        by false (Some k) e = inr (instance_fine k (h k e))

    super_fine : (o : Option ℕ) → StandsFine (super_standing s o)
    super_fine None = tt
    super_fine (Some k) = subst StandsFine (sym (super_seen k)) (super_found (base_of (classes_in decls) k) (slice_get (classes_in decls) k) (λ d e. there_below (classes_in decls) d ((bases_within (classes_in decls)).within k d e).1))

    root_fine : (r : Root ℕ) (ss : Selectors ℕ) → StandsFine (root_standing s r ss)
    unfolding root_standing
    root_fine (root.This l) ss = this_fine c refl
    root_fine (root.Super l) ss = super_fine c
    root_fine (root.Name l name) no_selectors = name_fine name
    root_fine (root.Name l name) (selector_then (Field k n) ss) = qualified_fine (dot_qualifier s name) name
    root_fine (root.Name l name) (selector_then (Index k es) ss) = name_fine name
    root_fine (root.Name l name) (selector_then (tree.Target k) ss) = name_fine name

    member_one : (o : Option (ℕ × DeclaredVariable)) → ((x : ℕ × DeclaredVariable) → o ≡ Some x → KindFine x.1) → ToldFine (part_type (member_part o or_else None))
    member_one None h = tt
    member_one (Some x) h = h x refl

    field_one : (n : ℕ) (name : List ℕ) (o : Option (ℕ × DeclaredField)) → field_named s n name ≡ o → ToldFine (part_type (field_part o))
    field_one n name None e = tt
    field_one n name (Some f) e = let x = field_shown decls p checked all ls n name f e in subst ToldFine (sym x.told) (inr x.sound.numbered)

    abbrev NearFine : Option (ℕ × DeclaredVariable) → Type 0
    NearFine None = Unit {0}
    NearFine (Some x) = KindFine x.1

    near_either : (a b : Option (ℕ × DeclaredVariable)) → NearFine a → NearFine b → NearFine (a or_else b)
    near_either None b h k = k
    near_either (Some x) b h k = h

    near_one : (d : ℕ) (o : Option DeclaredVariable) → ((v : DeclaredVariable) → o ≡ Some v → KindFine v) → NearFine (option_map (λ v. (d, v)) o)
    near_one d None h = tt
    near_one d (Some v) h = h v refl

    near_fine : (name : List ℕ) (cs : List ℕ) → NearFine (nearest (instance_entry s name) cs)
    near_fine name [] = tt
    near_fine name (d ∷ cs) =
        near_either (instance_entry s name d) (nearest (instance_entry s name) cs)
        (near_one d (variable_named name (filter is_of_instance (variables_of s d))) (λ v e. every_named KindFine name (filter is_of_instance (variables_of s d)) v (filtered is_of_instance (variables_of s d) (variables_fine d)) e))
        (near_fine name cs)

    instance_fine_part : (d : ℕ) (name : List ℕ) → ToldFine (part_type (instance_part s d false name))
    unfolding instance_variable
    instance_fine_part d name = by (instance_variable s d name) (near_fine name (chain (classes_in decls) d))
      where
        by : (o : Option (ℕ × DeclaredVariable)) → NearFine o → ToldFine (part_type (member_part o or_else None))
        by None h = tt
        by (Some x) h = h

    value_fine : (t : StType) (name : List ℕ) → ToldFine (part_type (value_part s t false name))
    value_fine (type.Structure n) name = field_one n name (field_named s n name) refl
    value_fine (type.Instance d) name = instance_fine_part d name
    value_fine _ name = tt

    counted_part : (n : ℕ) (o : Option ℕ) → ToldFine (part_type (option_map (a_value_of n) o))
    counted_part n None = tt
    counted_part n (Some k) = inl tt

    part_fine : (b : Standing) (name : List ℕ) → ToldFine (part_type (part_of s b false name))
    unfolding part_of
    part_fine untold name = tt
    part_fine (a_value t) name = value_fine t name
    part_fine (own_instance d) name = instance_fine_part d name
    part_fine no_base name = tt
    part_fine (an_enumeration n) name = counted_part n (value_of s n name)

    dereferenced_fine : (b : Standing) → StandsFine b → StandsFine (dereferenced b)
    dereferenced_fine untold h = tt
    dereferenced_fine (a_value t) h = target_fine t h
    dereferenced_fine (own_instance d) h = h
    dereferenced_fine no_base h = tt
    dereferenced_fine (an_enumeration n) h = tt

    selected_fine : (b : Standing) → StandsFine b → (x : Selector ℕ) → StandsFine (selected s b x)
    unfolding selected
    selected_fine b h (Field l name) = of_standing (part_type (part_of s b false name)) (part_fine b name)
    selected_fine b h (Index l es) = of_standing (indexed (count_expressions es) (standing_type b)) (indexed_fine (count_expressions es) (standing_type b) h)
    selected_fine b h (tree.Target l) = dereferenced_fine b h

    along_fine : (b : Standing) → StandsFine b → (ss : Selectors ℕ) → StandsFine (along s b ss)
    along_fine b h no_selectors = h
    along_fine b h (selector_then x ss) = along_fine (selected s b x) (selected_fine b h x) ss

    -- the class or the interface of a place's type is there
    pub place_named : (r : Root ℕ) (ss : Selectors ℕ) (t : StType) → place_type s r ss ≡ Some t → IsHeld t → IsNamed (program_of p) t
    unfolding placed
    place_named r ss t e h = by t (subst ToldFine e (along_fine (root_standing s r ss) (root_fine r ss) ss)) h
      where
        counted : (u : StType) → IsCounted u → IsHeld u → ⊥
        counted (type.Enumeration n) q k = k
        counted _ q k = q

        by : (u : StType) → Fine u → IsHeld u → IsNamed (program_of p) u
        by u (inl q) k = absurd (counted u q k)
        by u (inr n) k = named_there u n k
