-- A name that means a field of a structure means no other field.
use Rattle.std.proofs.Common.{◌≡◌, ℕ, suc, Bool, true, false, List, [], ◌∷◌, ◌++◌, map, Option, Some, None, refl, sym, ap, ◌∙◌, subst, inl, inr, ◌⊎◌}
use Rattle.std.specs.Prelude.{flat_map, option_map, slice_get, if◌then◌else◌}
use Rattle.std.specs.Option.{is_some}
use Rattle.std.proofs.lemmas.List.{map-append}
use Rattle.std.proofs.lemmas.Option.{slice_get-map}
use Rattle.plc_text.specs.Words.{same}
use Rattle.st_types.specs.declared.st_type.StType.{StType}
use Rattle.st_types.specs.declared.st_type.StType.TheVariants as type
use Rattle.st_tree.specs.declared.declaration.FieldGroup.{FieldGroup}
use Rattle.st_tree.specs.declared.declaration.TypeBody.{TypeBody}
use Rattle.st_tree.specs.declared.declaration.TypeBody.TheVariants as body
use Rattle.st_tree.specs.declared.declaration.TypeDecl.{TypeDecl}
use Rattle.st_tree.specs.declared.name.Name.{Name}
use Rattle.st_tree.specs.declared.program.Note.{Note}
use Rattle.st_tree.specs.declared.program.Program.{Program as Checked}
use Rattle.st_tree.specs.declared.unit.Decl.{Decl}
use Rattle.st_rules.specs.declared.names.DeclaredField.{DeclaredField}
use Rattle.st_rules.specs.declared.names.DeclaredNames.{DeclaredNames}
use Rattle.st_rules.specs.declared.names.TypeParts.{TypeParts}
use Rattle.st_rules.specs.declared.names.TypeParts.TheVariants as parts
use Rattle.st_rules.specs.Expressions.{told}
use Rattle.st_rules.specs.Scope.{Scope, field_from, field_list, field_named}
use Rattle.st_rules.proofs.Booleans.{none≢some, some-same}
use Rattle.st_unit_rules.specs.Checked.{Each, TypedGroup, TypedEntry, TypedTypeBody, IsChecked}
use Rattle.st_unit_rules.specs.declared_names.Declarations.{entries_in}
use Rattle.st_unit_rules.specs.declared_names.UnitNames.{unit_names, unit_scope, names_from, parts_declared, group_declared}
use Rattle.st_unit_rules.specs.declared_names.WrittenTypes.{type_written}
use Rattle.st_unit_rules.specs.NameRules.{texts, field_names, part_names, space_faults}
use Rattle.st_unit_rules.specs.UnitRefusal.{BreaksNothing}
use Rattle.st_values.specs.Program.{Variable, TypeEntry, Program}
use Rattle.st_values.specs.Shape.{fields_of}
use Rattle.st_values.specs.View.{group_variables, groups_in, type_body, type_entry, program_of}
use Rattle.st_values.proofs.ShapeLaws.{mapped_some}
use Rattle.st_meaning.specs.st_frame.Footprint.{Has}
use Rattle.resolution_order.specs.told_laws.ToldLaws.{Every}
use Rattle.resolution_order.proofs.told_laws.Telling.{told_laws}
use Rattle.accepted_texts.proofs.unfolding_laws.ListLaws.{every_at, every_joined, every_mapped, every_means, every_one, if_found, each_get}
use Rattle.accepted_texts.proofs.sized_units.Kept.{PartsAreTold}
use Rattle.accepted_texts.proofs.sized_units.Outputs.{every_has}
use Rattle.accepted_texts.proofs.unfolding_laws.ViewLaws.{kind_shown}
use Rattle.constant_laws.specs.Given.{PartNamed}
use Rattle.initial_laws.proofs.Names.{equal, Unique, space_unique, only_named}
use Rattle.initial_laws.proofs.Places.{EntryFine, entries_fine}

pub has_front : {X : Type 0} (xs ys : List X) (x : X) → Has xs x → Has (xs ++ ys) x
has_front [] ys x h = absurd h
has_front (z ∷ xs) ys x (inl e) = inl e
has_front (z ∷ xs) ys x (inr h) = inr (has_front xs ys x h)

pub has_back : {X : Type 0} (xs ys : List X) (x : X) → Has ys x → Has (xs ++ ys) x
has_back [] ys x h = h
has_back (z ∷ xs) ys x h = inr (has_back xs ys x h)

pub has_either : {X : Type 0} (xs ys : List X) (x : X) → Has (xs ++ ys) x → Has xs x ⊎ Has ys x
has_either [] ys x h = inr h
has_either (z ∷ xs) ys x (inl e) = inl (inl e)
has_either (z ∷ xs) ys x (inr h) = elim (has_either xs ys x h) [
  | inl k ↦ inl (inr k)
  | inr k ↦ inr k
]

-- the field that a name means is one of them, and has the name
found_field : (k : ℕ) (name : List ℕ) (fs : List DeclaredField) (f : ℕ × DeclaredField) → field_from k name fs ≡ Some f → Has fs f.1 × (same f.1.name name ≡ true)
found_field k name [] f e = absurd (none≢some e)
found_field k name (x ∷ fs) f e = by (same x.name name) refl e (found_field (suc k) name fs f)
  where
    by : (b : Bool) → same x.name name ≡ b → (if b then Some (k, x) else field_from (suc k) name fs) ≡ Some f → (field_from (suc k) name fs ≡ Some f → Has fs f.1 × (same f.1.name name ≡ true)) → Has (x ∷ fs) f.1 × (same f.1.name name ≡ true)
    by true q g h = let w : (k, x) ≡ f = some-same g in (inl (ap (λ (z : ℕ × DeclaredField). z.1) (sym w)), ap (λ (z : ℕ × DeclaredField). same z.1.name name) (sym w) ∙ q)
    by false q g h = let r = h g in (inr r.0, r.1)

module _ (decls : List (Decl ℕ)) where
  abbrev unit : Scope
  unit = unit_scope decls (unit_names decls)

  abbrev declared : List (FieldGroup ℕ) → List DeclaredField
  declared gs = flat_map (group_declared decls (unit_names decls)) gs

  -- a field as it is seen is one that is declared
  abbrev IsDeclared : List DeclaredField → Variable → Type 0
  IsDeclared fs v = (f : DeclaredField) × Has fs f × (f.name ≡ v.name) × (v.kind ≡ told f.kind)

  one_group : (g : FieldGroup ℕ) (h : FieldGroup Note) → TypedGroup unit g h → (ns : List Name) → (v : Variable) → Has (group_variables h ns) v → IsDeclared (map (λ (n : Name). record { name = n.text; kind = type_written unit g.kind }) ns) v
  one_group g h t [] v k = absurd k
  one_group g h t (n ∷ ns) v (inl e) =
      (record { name = n.text; kind = type_written unit g.kind }, inl refl, ap (λ (z : Variable). z.name) (sym e), ap (λ (z : Variable). z.kind) e ∙ kind_shown unit g.kind h.kind t.kind)
  one_group g h t (n ∷ ns) v (inr k) = let r = one_group g h t ns v k in (r.0, inr r.1, r.2, r.3)

  all_groups : (gs : List (FieldGroup ℕ)) (hs : List (FieldGroup Note)) → Each (TypedGroup unit) gs hs → (v : Variable) → Has (groups_in hs) v → IsDeclared (declared gs) v
  all_groups [] [] t v k = absurd k
  all_groups [] (h ∷ hs) t v k = absurd t
  all_groups (g ∷ gs) [] t v k = absurd t
  all_groups (g ∷ gs) (h ∷ hs) t v k = elim (has_either (group_variables h h.names) (groups_in hs) v k) [
    | inl a ↦
        let r = one_group g h t.0 g.names v (subst (λ ns. Has (group_variables h ns) v) t.0.names a) in
        (r.0, has_front (group_declared decls (unit_names decls) g) (declared gs) r.0 r.1, r.2, r.3)
    | inr a ↦ let r = all_groups gs hs t.1 v a in (r.0, has_back (group_declared decls (unit_names decls) g) (declared gs) r.0 r.1, r.2, r.3)
  ]

  -- the names of the fields are those of the structure
  group_texts : (g : FieldGroup ℕ) (ns : List Name) → map (λ (f : DeclaredField). f.name) (map (λ (n : Name). record { name = n.text; kind = type_written unit g.kind }) ns) ≡ texts ns
  group_texts g [] = refl
  group_texts g (n ∷ ns) = ap (λ ts. n.text ∷ ts) (group_texts g ns)

  names_declared : (gs : List (FieldGroup ℕ)) → map (λ (f : DeclaredField). f.name) (declared gs) ≡ texts (field_names gs)
  names_declared [] = refl
  names_declared (g ∷ gs) =
      map-append (λ (f : DeclaredField). f.name) (group_declared decls (unit_names decls) g) (declared gs)
      ∙ (ap (λ ts. ts ++ map (λ (f : DeclaredField). f.name) (declared gs)) (group_texts g g.names)
      ∙ (ap (λ ts. texts g.names ++ ts) (names_declared gs) ∙ sym (map-append (λ (n : Name). n.text) g.names (field_names gs))))

  pub told_kind : (o : Option StType) (u v : StType) → o ≡ Some u → v ≡ told o → v ≡ u
  unfolding told
  told_kind None u v e q = absurd (none≢some e)
  told_kind (Some w) u v e q = q ∙ some-same e

  module _ (p : Checked) (good : BreaksNothing decls) (checked : IsChecked decls p) where
    abbrev Seen : Program
    Seen = program_of p

    of_body : (n : ℕ) (name : List ℕ) (f : ℕ × DeclaredField) (u : StType) → f.1.kind ≡ Some u → (a : TypeBody ℕ) (b : TypeBody Note) → space_faults (part_names a) ≡ [] → TypedTypeBody decls a b → field_from 0 name (field_list (parts_declared decls (unit_names decls) a)) ≡ Some f
        → (vs : List Variable) → fields_of (type_body b) ≡ Some vs → (v : Variable) → Has vs v → same name v.name ≡ true → v.kind ≡ u
    of_body n name f u k (body.Alias x) b s t e vs g v h q = absurd (none≢some e)
    of_body n name f u k (body.Enumeration ns) b s t e vs g v h q = absurd (none≢some e)
    of_body n name f u k (body.Structure gs) (body.Alias y) s t e vs g v h q = absurd t
    of_body n name f u k (body.Structure gs) (body.Enumeration ms) s t e vs g v h q = absurd t
    of_body n name f u k (body.Structure gs) (body.Structure hs) s t e vs g v h q =
        let found = found_field 0 name (declared gs) f e in
        let seen = all_groups gs hs t v (subst (λ us. Has us v) (sym (some-same g)) h) in
        let unique = subst Unique (sym (names_declared gs)) (space_unique (field_names gs) s) in
        let names : f.1.name ≡ (seen.0).name = equal f.1.name name found.1 ∙ (equal name v.name q ∙ sym seen.2) in
        let one = only_named (λ (d : DeclaredField). d.name) (declared gs) unique f.1 seen.0 found.0 seen.1 names in
        told_kind f.1.kind u v.kind k (seen.3 ∙ ap (λ (d : DeclaredField). told d.kind) (sym one))

    -- the parts of all names are those of the entries
    abbrev parts_in : Option TypeParts → TypeParts
    parts_in None = parts.Nothing
    parts_in (Some t) = t

    entry_parts : (n : ℕ) (o : Option (TypeDecl ℕ)) → slice_get (entries_in decls) n ≡ o → slice_get (unit_names decls).parts n ≡ option_map (λ (t : TypeDecl ℕ). parts_declared decls (unit_names decls) t.body) o
    unfolding names_from
    entry_parts n o e =
        ap (λ (a : DeclaredNames). slice_get a.parts n) (sym (told_laws.settled decls))
        ∙ (slice_get-map (λ (t : TypeDecl ℕ). parts_declared decls (unit_names decls) t.body) (entries_in decls) n ∙ ap (option_map (λ (t : TypeDecl ℕ). parts_declared decls (unit_names decls) t.body)) e)

    structure_told : (n : ℕ) (t : TypeDecl ℕ) (a : TypeBody ℕ) (name : List ℕ) (f : ℕ × DeclaredField) → PartsAreTold decls → slice_get (entries_in decls) n ≡ Some t → t.body ≡ a → field_from 0 name (field_list (parts_declared decls (unit_names decls) a)) ≡ Some f → is_some f.1.kind ≡ true
    structure_told n t (body.Alias x) name f all e q h = absurd (none≢some h)
    structure_told n t (body.Enumeration ns) name f all e q h = absurd (none≢some h)
    structure_told n t (body.Structure gs) name f all e q h =
        every_has (λ (d : DeclaredField). is_some d.kind ≡ true) (declared gs) f.1
        (every_joined (λ (d : DeclaredField). is_some d.kind ≡ true) (group_declared decls (unit_names decls)) gs
        (every_means (λ (g : FieldGroup ℕ). is_some (type_written unit g.kind) ≡ true) (λ (g : FieldGroup ℕ). Every (λ (d : DeclaredField). is_some d.kind ≡ true) (group_declared decls (unit_names decls) g))
        (λ g i. every_mapped (λ (d : DeclaredField). is_some d.kind ≡ true) _ g.names (every_one _ (λ m. i) g.names)) gs (all.fields n t gs e q)))
        (found_field 0 name (declared gs) f h).0

    -- the field that a name means has a type
    pub field_told : (n : ℕ) (name : List ℕ) (f : ℕ × DeclaredField) → PartsAreTold decls → field_named unit n name ≡ Some f → is_some f.1.kind ≡ true
    field_told n name f all e = by (slice_get (entries_in decls) n) refl
      where
        at : (o : Option TypeParts) → slice_get (unit_names decls).parts n ≡ o → field_from 0 name (field_list (parts_in o)) ≡ Some f
        at o q = ap (λ z. field_from 0 name (field_list (parts_in z))) (sym q) ∙ e

        by : (o : Option (TypeDecl ℕ)) → slice_get (entries_in decls) n ≡ o → is_some f.1.kind ≡ true
        by None q = absurd (none≢some (at None (entry_parts n None q)))
        by (Some t) q = structure_told n t t.body name f all q refl (at (Some (parts_declared decls (unit_names decls) t.body)) (entry_parts n (Some t) q))

    pub field_only : (n : ℕ) (name : List ℕ) (f : ℕ × DeclaredField) (u : StType) → field_named unit n name ≡ Some f → f.1.kind ≡ Some u → PartNamed Seen (type.Structure n) name u
    field_only n name f u e k = by (slice_get (entries_in decls) n) refl
      where
        at : (o : Option TypeParts) → slice_get (unit_names decls).parts n ≡ o → field_from 0 name (field_list (parts_in o)) ≡ Some f
        at o q = ap (λ z. field_from 0 name (field_list (parts_in z))) (sym q) ∙ e

        by : (o : Option (TypeDecl ℕ)) → slice_get (entries_in decls) n ≡ o → PartNamed Seen (type.Structure n) name u
        by None q = absurd (none≢some (at None (entry_parts n None q)))
        by (Some t) q = record {
          kind = λ v h s.
              let y = mapped_some type_entry (slice_get p.types n) h.0 (sym (slice_get-map type_entry p.types n) ∙ h.2) in
              let x = if_found (TypedEntry decls) (slice_get (entries_in decls) n) (slice_get p.types n) y.0 y.1 (each_get (TypedEntry decls) (entries_in decls) p.types n checked.types) in
              let same_entry : x.0 ≡ t = some-same (sym x.1 ∙ q) in
              let fine = every_at (EntryFine decls good) (entries_in decls) n t (entries_fine decls good) q in
              let typed : TypedTypeBody decls t.body (y.0).body = subst (λ (z : TypeDecl ℕ). TypedTypeBody decls z.body (y.0).body) same_entry (x.2).body in
              of_body n name f u k t.body (y.0).body fine.names typed (at (Some (parts_declared decls (unit_names decls) t.body)) (entry_parts n (Some t) q)) h.1 (ap (λ (z : TypeEntry). fields_of z.body) y.2 ∙ h.3) v h.4 s;
        }
