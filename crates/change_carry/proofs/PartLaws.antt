-- The old parts that are found are those of the definitions.
use Rattle.std.proofs.Common.{◌≡◌, ℕ, zero, suc, ℤ, Bool, true, false, List, [], ◌∷◌, map, Option, Some, None, Bor, refl, sym, ap, ◌∙◌}
use Rattle.std.proofs.lemmas.Option.{slice_get-map}
use Rattle.std.specs.Prelude.{if◌then◌else◌, not, IfSome, MatchOption, option_map, option_and_then, slice_get}
use Rattle.plc_text.specs.Words.{same}
use Rattle.st_tree.specs.declared.declaration.TypeDecl.{TypeDecl}
use Rattle.st_tree.specs.declared.program.Note.{Note}
use Rattle.st_tree.specs.declared.program.Program.{Program as CheckedProgram}
use Rattle.st_values.specs.Program.{Variable, TypeEntry, Program}
use Rattle.st_values.specs.View.{program_of, type_entry}
use Rattle.st_values.specs.Value.{Value, number, reference, array, structure, instance, Members, no_members, member_then, place_of_index, element, member, ◌>>=◌}
use Rattle.st_values.specs.Shape.{Shape, Elementary, Enumeration, Reference, Interface, Array, Structure, Instance, Fields, no_fields, field_then, field}
use Rattle.st_change.specs.From.{Pairs, field_number, structure_pairs}
use Rattle.st_change.proofs.Names.{same-true}
use Rattle.st_change.specs.Carry.{Old, old_element, old_field, field_before, variable_before, before_by}
use Rattle.shape_trees.specs.Shape.{shape_of, field_of, fields_of, field-is}
use Rattle.shape_trees.specs.declared.shape.Field.{Field as CodeField}
use Rattle.value_trees.specs.Value.{value_of, members_of}
use Rattle.value_trees.specs.declared.value.Member.{Member as CodeMember}
use Rattle.value_trees.proofs.Parts.{members_get}
use Rattle.change_names.specs.change_pairs.Places.{Table, found_in, Finds, first_where}
use Rattle.change_carry.specs.Private.Parts.{Elements, elements_in, element_at, element_old, Parts, structure_parts, instance_parts, part_in, part_named, ArePlacesOf}

-- ---- elements

one_more : {B C : Type 0} (o : Option B) (g : B → C) → (o >>= λ b. Some (g b)) ≡ option_map g o
one_more None g = refl
one_more (Some b) g = refl

in_turn : {A B C : Type 0} (o : Option A) (f : A → Option B) (g : B → C) → (o >>= λ a. f a >>= λ b. Some (g b)) ≡ option_map g (o >>= f)
in_turn None f g = refl
in_turn (Some a) f g = one_more (f a) g

pub elements_found : (before : Shape) (v : Value) (e : Elements) (i : ℤ) → Some e ≡ elements_in before v → old_element (Some (before, v)) i ≡ element_old e i
elements_found (Array low n sh) (array l vs) e i h =
    let d : ◌≡◌ {A = Elements} e (record { low = low; shape = sh; values = vs }) = cc in
    in_turn (place_of_index low i) (element vs) (λ w. (sh, w)) ∙ ap (λ x. element_old x i) (sym d)
elements_found (Array low n sh) (number z) e i h = absurd cc
elements_found (Array low n sh) (reference o) e i h = absurd cc
elements_found (Array low n sh) (structure m ms) e i h = absurd cc
elements_found (Array low n sh) (instance m ms) e i h = absurd cc
elements_found (Elementary x) v e i h = absurd cc
elements_found (Enumeration n vs) v e i h = absurd cc
elements_found (Reference c n) v e i h = absurd cc
elements_found (Interface c n) v e i h = absurd cc
elements_found (Structure n fs) v e i h = absurd cc
elements_found (Instance c n fs) v e i h = absurd cc

pub no_elements : (before : Shape) (v : Value) (i : ℤ) → None ≡ elements_in before v → old_element (Some (before, v)) i ≡ None
no_elements (Array low n sh) (array l vs) i h = absurd cc
no_elements (Array low n sh) (number z) i h = refl
no_elements (Array low n sh) (reference o) i h = refl
no_elements (Array low n sh) (structure m ms) i h = refl
no_elements (Array low n sh) (instance m ms) i h = refl
no_elements (Elementary x) v i h = refl
no_elements (Enumeration n vs) v i h = refl
no_elements (Reference c n) v i h = refl
no_elements (Interface c n) v i h = refl
no_elements (Structure n fs) v i h = refl
no_elements (Instance c n fs) v i h = refl

-- ---- fields and variables

neither : {A : Type 0} (b : Bool) (a : A) → Some a ≡ (if b then None else None) → ⊥
neither true a h = cc
neither false a h = cc

module _ (name f : List ℕ) where
  abbrev if_called : Bool → Fields → Members → Option Parts
  if_called b fs ms = if b then Some (record { fields = fs; members = ms }) else None

  one_of : (b : Bool) (fs : Fields) (ms : Members) (a : Parts) → Some a ≡ if_called b fs ms → (if b then old_field fs ms f else None) ≡ part_named a f
  one_of true fs ms a h =
      let d : ◌≡◌ {A = Parts} a (record { fields = fs; members = ms }) = cc in
      ap (λ x. part_named x f) (sym d)
  one_of false fs ms a h = absurd cc

  none_of : (b : Bool) (fs : Fields) (ms : Members) → None ≡ if_called b fs ms → (if b then old_field fs ms f else None) ≡ None
  none_of true fs ms h = absurd cc
  none_of false fs ms h = refl

  pub fields_found : (before : Shape) (v : Value) (a : Parts) → Some a ≡ structure_parts name before v → field_before name (Some (before, v)) f ≡ part_named a f
  fields_found (Structure n fs) (structure m ms) a h = one_of (same n name) fs ms a h
  fields_found (Structure n fs) (number z) a h = absurd (neither (same n name) a h)
  fields_found (Structure n fs) (reference o) a h = absurd (neither (same n name) a h)
  fields_found (Structure n fs) (array l vs) a h = absurd (neither (same n name) a h)
  fields_found (Structure n fs) (instance m ms) a h = absurd (neither (same n name) a h)
  fields_found (Elementary x) v a h = absurd cc
  fields_found (Enumeration n vs) v a h = absurd cc
  fields_found (Reference c n) v a h = absurd cc
  fields_found (Interface c n) v a h = absurd cc
  fields_found (Array low n sh) v a h = absurd cc
  fields_found (Instance c n fs) v a h = absurd cc

  pub no_fields_found : (before : Shape) (v : Value) → None ≡ structure_parts name before v → field_before name (Some (before, v)) f ≡ None
  no_fields_found (Structure n fs) (structure m ms) h = none_of (same n name) fs ms h
  no_fields_found (Structure n fs) (number z) h = refl
  no_fields_found (Structure n fs) (reference o) h = refl
  no_fields_found (Structure n fs) (array l vs) h = refl
  no_fields_found (Structure n fs) (instance m ms) h = refl
  no_fields_found (Elementary x) v h = refl
  no_fields_found (Enumeration n vs) v h = refl
  no_fields_found (Reference c n) v h = refl
  no_fields_found (Interface c n) v h = refl
  no_fields_found (Array low n sh) v h = refl
  no_fields_found (Instance c n fs) v h = refl

  pub variables_found : (before : Shape) (v : Value) (a : Parts) → Some a ≡ instance_parts name before v → variable_before name (Some (before, v)) f ≡ part_named a f
  variables_found (Instance c n fs) (instance m ms) a h = one_of (same n name) fs ms a h
  variables_found (Instance c n fs) (number z) a h = absurd (neither (same n name) a h)
  variables_found (Instance c n fs) (reference o) a h = absurd (neither (same n name) a h)
  variables_found (Instance c n fs) (array l vs) a h = absurd (neither (same n name) a h)
  variables_found (Instance c n fs) (structure m ms) a h = absurd (neither (same n name) a h)
  variables_found (Elementary x) v a h = absurd cc
  variables_found (Enumeration n vs) v a h = absurd cc
  variables_found (Reference c n) v a h = absurd cc
  variables_found (Interface c n) v a h = absurd cc
  variables_found (Array low n sh) v a h = absurd cc
  variables_found (Structure n fs) v a h = absurd cc

  pub no_variables_found : (before : Shape) (v : Value) → None ≡ instance_parts name before v → variable_before name (Some (before, v)) f ≡ None
  no_variables_found (Instance c n fs) (instance m ms) h = none_of (same n name) fs ms h
  no_variables_found (Instance c n fs) (number z) h = refl
  no_variables_found (Instance c n fs) (reference o) h = refl
  no_variables_found (Instance c n fs) (array l vs) h = refl
  no_variables_found (Instance c n fs) (structure m ms) h = refl
  no_variables_found (Elementary x) v h = refl
  no_variables_found (Enumeration n vs) v h = refl
  no_variables_found (Reference c n) v h = refl
  no_variables_found (Interface c n) v h = refl
  no_variables_found (Array low n sh) v h = refl
  no_variables_found (Structure n fs) v h = refl

-- ---- one of them, by its number

fields_get : (fs : List CodeField) (k : ℕ) → field (fields_of fs) k ≡ option_map (λ f. shape_of f.shape) (slice_get fs k)
fields_get [] k = refl
fields_get (f ∷ fs) zero = ap (λ x. Some x.1) (field-is f)
fields_get (f ∷ fs) (suc k) = fields_get fs k

abbrev after_field : Members → ℕ → Option Shape → Old
after_field ms k o = o >>= λ sh. member ms k >>= λ v. Some (sh, v)

abbrev after_member : Shape → Option Value → Old
after_member sh o = o >>= λ v. Some (sh, v)

module _ (fs : List CodeField) (ms : List CodeMember) (k : ℕ) where
  pub part_there : (f : CodeField) (m : CodeMember) → slice_get fs k ≡ Some f → slice_get ms k ≡ Some m → part_in (fields_of fs) (members_of ms) k ≡ Some (shape_of f.shape, value_of m.value)
  part_there f m e h =
      ap (after_field (members_of ms) k) (fields_get fs k ∙ ap (option_map (λ (x : CodeField). shape_of x.shape)) e)
      ∙ ap (after_member (shape_of f.shape)) (members_get ms k ∙ ap (option_map (λ (x : CodeMember). value_of x.value)) h)

  pub no_field_there : slice_get fs k ≡ None → part_in (fields_of fs) (members_of ms) k ≡ None
  no_field_there e = ap (after_field (members_of ms) k) (fields_get fs k ∙ ap (option_map (λ (x : CodeField). shape_of x.shape)) e)

  pub no_member_there : slice_get ms k ≡ None → part_in (fields_of fs) (members_of ms) k ≡ None
  no_member_there e = by (field (fields_of fs) k)
    where
      none : member (members_of ms) k ≡ None
      none = members_get ms k ∙ ap (option_map (λ (x : CodeMember). value_of x.value)) e

      by : (o : Option Shape) → after_field (members_of ms) k o ≡ None
      by None = refl
      by (Some sh) = ap (after_member sh) none

-- ---- one of them, by its name

nothing_there : (fs : Fields) (o : Option ℕ) → (o >>= part_in fs no_members) ≡ None
nothing_there fs None = refl
nothing_there fs (Some k) = by (field fs k)
  where
    by : (o : Option Shape) → after_field no_members k o ≡ None
    by None = refl
    by (Some sh) = refl

one_later : (v : Variable) (sh : Shape) (fs : Fields) (n : List ℕ) (w : Value) (ms : Members) (o : Option ℕ) → (option_map suc o >>= part_in (field_then v sh fs) (member_then n w ms)) ≡ (o >>= part_in fs ms)
one_later v sh fs n w ms None = refl
one_later v sh fs n w ms (Some k) = refl

part_numbered : (fs : Fields) (ms : Members) (f : List ℕ) → old_field fs ms f ≡ (field_number fs f >>= part_in fs ms)
part_numbered no_fields ms f = refl
part_numbered (field_then v sh fs) no_members f = sym (nothing_there (field_then v sh fs) (field_number (field_then v sh fs) f))
part_numbered (field_then v sh fs) (member_then n w ms) f = by (part_numbered fs ms f) (same v.name f)
  where
    by : old_field fs ms f ≡ (field_number fs f >>= part_in fs ms) → (b : Bool) → (if b then Some (sh, w) else old_field fs ms f) ≡ ((if b then Some 0 else option_map suc (field_number fs f)) >>= part_in (field_then v sh fs) (member_then n w ms))
    by e true = refl
    by e false = e ∙ sym (one_later v sh fs n w ms (field_number fs f))

-- the part that a place which is found by a name leads to
pub part_by_place : (places : Table) (a : Parts) (o : Option (List ℕ)) (k : Option ℕ) → ArePlacesOf places a.fields → k ≡ option_and_then (found_in places) o → before_by (part_named a) o ≡ (k >>= part_in a.fields a.members)
part_by_place places a None k are e = sym (ap (λ x. x >>= part_in a.fields a.members) e)
part_by_place places a (Some n) k are e = part_numbered a.fields a.members n ∙ ap (λ x. x >>= part_in a.fields a.members) (sym (are.by n) ∙ sym e)

-- ---- the table of the places

abbrev pub has_name : List ℕ → CodeField → Bool
has_name n f = same f.variable.name.now n

first_field : (fs : List CodeField) (n : List ℕ) → first_where (has_name n) fs ≡ field_number (fields_of fs) n
first_field [] n = refl
first_field (f ∷ fs) n =
    ap (λ o. if has_name n f then Some 0 else option_map suc o) (first_field fs n)
    ∙ sym (ap (λ x. if same x.0.name n then Some 0 else option_map suc (field_number (fields_of fs) n)) (field-is f))

pub fields_placed : (fs : List CodeField) (table : Table) → Finds table (λ n. first_where (has_name n) fs) → ArePlacesOf table (fields_of fs)
fields_placed fs table h = record { by = λ n. h.by n ∙ first_field fs n }

-- ---- the table of a structure

not_other : (b : Bool) → false ≡ not b → b ≡ true
not_other true e = refl
not_other false e = absurd cc

module _ (old : Program) (p : CheckedProgram) where
  abbrev pairs_for : TypeEntry → Pairs
  pairs_for t = structure_pairs old (program_of p) t.name

  pub structure_known : (o : Option (Bor Pairs)) (tables : List Pairs) (n : ℕ) (d : TypeDecl Note) (name : List ℕ) → tables ≡ map pairs_for (program_of p).types → Some d ≡ slice_get p.types n → false ≡ not (same d.name.text name)
      → MatchOption o (slice_get tables n ≡ None) (λ t. slice_get tables n ≡ Some t.now) → IfSome o (λ t. t.now ≡ structure_pairs old (program_of p) name)
  structure_known None tables n d name e there is h = tt
  structure_known (Some t) tables n d name e there is h =
      let found : slice_get tables n ≡ Some (pairs_for (type_entry d)) =
      ap (λ ts. slice_get ts n) e ∙ slice_get-map pairs_for (program_of p).types n
      ∙ ap (option_map pairs_for) (slice_get-map type_entry p.types n ∙ ap (option_map type_entry) (sym there)) in
      let both : Some t.now ≡ Some (pairs_for (type_entry d)) = sym h ∙ found in
      let k : t.now ≡ pairs_for (type_entry d) = cc in
      k ∙ ap (structure_pairs old (program_of p)) (same-true d.name.text name (not_other (same d.name.text name) is))
