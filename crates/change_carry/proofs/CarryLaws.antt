-- Values that are carried, part by part.
use Rattle.std.proofs.Common.{◌≡◌, ◌≤◌, ◌<◌, ℕ, zero, suc, ◌+◌, ℤ, pos, ◌+ℤ◌, Bool, true, false, List, [], ◌∷◌, length, Option, Some, None, Result, Ok, Err, Bor, refl, sym, ap, ap₂, ◌∙◌, subst, arith}
use Rattle.std.specs.Prelude.{if◌then◌else◌, ◌&&◌, ◌||◌, not, OnOk, option_map, slice_get, slice_set}
use Rattle.st_types.specs.declared.elem.Elem.{Elem}
use Rattle.st_values.specs.Program.{Variable, Program}
use Rattle.st_values.specs.Value.{Path, Value, number, reference, array, structure, instance, Values, no_values, value_then, Members, no_members, member_then}
use Rattle.st_values.specs.Shape.{Shape, Elementary, Enumeration, Reference, Interface, Array, Structure, Instance, Fields, no_fields, field_then}
use Rattle.st_change.specs.From.{Pairs, old_name, structure_pairs, class_pairs}
use Rattle.st_change.specs.Carry.{Old, old_element, field_before, variable_before, before_by, stays, relocated, reference_before, carry, carry_elements, carry_members}
use Rattle.shape_trees.specs.Shape.{shape_of, field_of, fields_of, field-is, shape-Array, shape-Structure, shape-Instance}
use Rattle.shape_trees.specs.declared.shape.Shape.{Shape as CodeShape}
use Rattle.shape_trees.specs.declared.shape.Shape.TheVariants as code
use Rattle.shape_trees.specs.declared.shape.Field.{Field as CodeField}
use Rattle.value_trees.specs.Value.{value_of, values_of, member_of, members_of, member-is, value-Number}
use Rattle.value_trees.specs.declared.value.Value.{Value as CodeValue}
use Rattle.value_trees.specs.declared.value.Value.TheVariants as code_value
use Rattle.value_trees.specs.declared.value.Member.{Member as CodeMember}
use Rattle.change_carry.specs.Private.Numbers.{number_by}
use Rattle.change_carry.specs.Private.References.{reference_by}
use Rattle.change_carry.specs.Private.Parts.{Elements, elements_in, element_at, element_old, Parts, structure_parts, instance_parts, part_named}
use Rattle.change_carry.specs.Private.Carry.{element_by, member_by, elements_carried, elements_by, structure_by, instance_by, carried}
use Rattle.change_carry.proofs.PartLaws.{elements_found, no_elements, fields_found, no_fields_found, variables_found, no_variables_found}

-- ---- results

pub on_ok : {A E P Q : Type 0} (r : Result A E) → (P → Q) → OnOk r P → OnOk r Q
on_ok (Ok a) f h = f h
on_ok (Err e) f h = tt

pub on_equal : {A E X : Type 0} (r : Result A E) (x y z : X) → y ≡ z → OnOk r (x ≡ y) → OnOk r (x ≡ z)
on_equal (Ok a) x y z e h = h ∙ e
on_equal (Err b) x y z e h = tt

-- ---- one place of many

pub values_written : (f : Value → Value) (vs : List CodeValue) (k : ℕ) (x y : CodeValue) → slice_get vs k ≡ Some x → value_of y ≡ f (value_of x) → values_of (slice_set vs k y) ≡ element_by k f (values_of vs)
values_written f [] k x y e h = absurd cc
values_written f (v ∷ vs) zero x y e h =
    let d : v ≡ x = cc in
    ap (λ w. value_then w (values_of vs)) (h ∙ ap (λ w. f (value_of w)) (sym d))
values_written f (v ∷ vs) (suc k) x y e h = ap (value_then (value_of v)) (values_written f vs k x y e h)

pub values_long : (vs : List CodeValue) (k : ℕ) (y : CodeValue) → length (slice_set vs k y) ≡ length vs
values_long [] k y = refl
values_long (v ∷ vs) zero y = refl
values_long (v ∷ vs) (suc k) y = ap suc (values_long vs k y)

pub no_value_written : (f : Value → Value) (vs : List CodeValue) (k : ℕ) → slice_get vs k ≡ None → values_of vs ≡ element_by k f (values_of vs)
no_value_written f [] k e = refl
no_value_written f (v ∷ vs) zero e = absurd cc
no_value_written f (v ∷ vs) (suc k) e = ap (value_then (value_of v)) (no_value_written f vs k e)

pub same_values : (f : Value → Value) (vs : Values) (k : ℕ) → ((v : Value) → f v ≡ v) → vs ≡ element_by k f vs
same_values f no_values k h = refl
same_values f (value_then v vs) zero h = ap (λ w. value_then w vs) (sym (h v))
same_values f (value_then v vs) (suc k) h = ap (value_then v) (same_values f vs k h)

pub members_written : (f : Value → Value) (ms : List CodeMember) (k : ℕ) (m m' : CodeMember) → slice_get ms k ≡ Some m → m'.name ≡ m.name → value_of m'.value ≡ f (value_of m.value) → members_of (slice_set ms k m') ≡ member_by k f (members_of ms)
members_written f [] k m m' e n h = absurd cc
members_written f (x ∷ ms) zero m m' e n h =
    let d : x ≡ m = cc in
    ap (λ y. member_then y.0 y.1 (members_of ms)) (member-is m')
    ∙ ap₂ (λ a b. member_then a b (members_of ms)) n h
    ∙ ap (λ y. member_then y.name (f (value_of y.value)) (members_of ms)) (sym d)
    ∙ ap (λ y. member_then y.0 (f y.1) (members_of ms)) (sym (member-is x))
members_written f (x ∷ ms) (suc k) m m' e n h = ap (member_then (member_of x).0 (member_of x).1) (members_written f ms k m m' e n h)

pub no_member_written : (f : Value → Value) (ms : List CodeMember) (k : ℕ) → slice_get ms k ≡ None → members_of ms ≡ member_by k f (members_of ms)
no_member_written f [] k e = refl
no_member_written f (m ∷ ms) zero e = absurd cc
no_member_written f (m ∷ ms) (suc k) e = ap (member_then (member_of m).0 (member_of m).1) (no_member_written f ms k e)

pub same_members : (f : Value → Value) (ms : Members) (k : ℕ) → ((v : Value) → f v ≡ v) → ms ≡ member_by k f ms
same_members f no_members k h = refl
same_members f (member_then n v ms) zero h = ap (λ w. member_then n w ms) (sym (h v))
same_members f (member_then n v ms) (suc k) h = ap (member_then n v) (same_members f ms k h)

pub member_written : {A E : Type 0} (r : Result A E) (f : Value → Value) (ms : List CodeMember) (k : ℕ) (m m' : CodeMember) → Some m ≡ slice_get ms k → m'.name ≡ m.name → OnOk r (value_of m'.value ≡ f (value_of m.value)) → OnOk r (members_of (slice_set ms k m') ≡ member_by k f (members_of ms))
member_written (Err b) f ms k m m' there name h = tt
member_written (Ok a) f ms k m m' there name h = members_written f ms k m m' (sym there) name h

-- ---- numbers and references

either : (b : Bool) (x h : Value) → x ≡ h → (if b then h else x) ≡ h
either true x h e = refl
either false x h e = e

nothing_before : (part : List ℕ → Old) (o : Option (List ℕ)) → ((f : List ℕ) → part f ≡ None) → before_by part o ≡ None
nothing_before part None e = refl
nothing_before part (Some f) e = e f

before_alike : (one other : List ℕ → Old) (o : Option (List ℕ)) → ((f : List ℕ) → one f ≡ other f) → before_by one o ≡ before_by other o
before_alike one other None e = refl
before_alike one other (Some f) e = e f

module _ (old new : Program) (keeping : Bool) where
  pub carry_number : (sh before : Shape) (v : Value) (z : ℤ) → carry old new keeping sh (Some (before, v)) (number z) ≡ number (number_by sh before v z)
  carry_number (Elementary e) before v z = refl
  carry_number (Enumeration n vs) before v z = refl
  carry_number (Reference c n) before v z = refl
  carry_number (Interface c n) before v z = refl
  carry_number (Array low n sh) before v z = refl
  carry_number (Structure n fs) before v z = refl
  carry_number (Instance c n fs) before v z = refl

  carry_reference : (sh before : Shape) (v : Value) (h : Option Path) → carry old new keeping sh (Some (before, v)) (reference h) ≡ reference (reference_by old new sh before v h)
  carry_reference (Elementary e) before v h = refl
  carry_reference (Enumeration n vs) before v h = refl
  carry_reference (Reference c n) (Reference d m) (reference o) h = refl
  carry_reference (Reference c n) (Reference d m) (number z) h = refl
  carry_reference (Reference c n) (Reference d m) (array l vs) h = refl
  carry_reference (Reference c n) (Reference d m) (structure x ms) h = refl
  carry_reference (Reference c n) (Reference d m) (instance x ms) h = refl
  carry_reference (Reference c n) (Interface d m) (reference o) h = refl
  carry_reference (Reference c n) (Interface d m) (number z) h = refl
  carry_reference (Reference c n) (Interface d m) (array l vs) h = refl
  carry_reference (Reference c n) (Interface d m) (structure x ms) h = refl
  carry_reference (Reference c n) (Interface d m) (instance x ms) h = refl
  carry_reference (Reference c n) (Elementary e) v h = refl
  carry_reference (Reference c n) (Enumeration m vs) v h = refl
  carry_reference (Reference c n) (Array low m sh) v h = refl
  carry_reference (Reference c n) (Structure m fs) v h = refl
  carry_reference (Reference c n) (Instance d m fs) v h = refl
  carry_reference (Interface c n) (Reference d m) (reference o) h = refl
  carry_reference (Interface c n) (Reference d m) (number z) h = refl
  carry_reference (Interface c n) (Reference d m) (array l vs) h = refl
  carry_reference (Interface c n) (Reference d m) (structure x ms) h = refl
  carry_reference (Interface c n) (Reference d m) (instance x ms) h = refl
  carry_reference (Interface c n) (Interface d m) (reference o) h = refl
  carry_reference (Interface c n) (Interface d m) (number z) h = refl
  carry_reference (Interface c n) (Interface d m) (array l vs) h = refl
  carry_reference (Interface c n) (Interface d m) (structure x ms) h = refl
  carry_reference (Interface c n) (Interface d m) (instance x ms) h = refl
  carry_reference (Interface c n) (Elementary e) v h = refl
  carry_reference (Interface c n) (Enumeration m vs) v h = refl
  carry_reference (Interface c n) (Array low m sh) v h = refl
  carry_reference (Interface c n) (Structure m fs) v h = refl
  carry_reference (Interface c n) (Instance d m fs) v h = refl
  carry_reference (Array low n sh) before v h = refl
  carry_reference (Structure n fs) before v h = refl
  carry_reference (Instance c n fs) before v h = refl

  pub reference_carried : (sh before : Shape) (v : Value) (h q : Option Path) → q ≡ reference_by old new sh before v h → reference q ≡ carry old new keeping sh (Some (before, v)) (reference h)
  reference_carried sh before v h q e = ap reference e ∙ sym (carry_reference sh before v h)

  -- ---- parts

  pub carry_array : (sh before : Shape) (v : Value) (l : ℤ) (hs hs' : Values) → hs' ≡ elements_by old new keeping sh before v hs → array l hs' ≡ carry old new keeping sh (Some (before, v)) (array l hs)
  carry_array (Elementary e) before v l hs hs' h = ap (array l) h
  carry_array (Enumeration n vs) before v l hs hs' h = ap (array l) h
  carry_array (Reference c n) before v l hs hs' h = ap (array l) h
  carry_array (Interface c n) before v l hs hs' h = ap (array l) h
  carry_array (Array low n sh) before v l hs hs' h = ap (array l) h
  carry_array (Structure n fs) before v l hs hs' h = ap (array l) h
  carry_array (Instance c n fs) before v l hs hs' h = ap (array l) h

  pub carry_structure : (sh before : Shape) (v : Value) (m : List ℕ) (hs hs' : Members) → hs' ≡ structure_by old new keeping sh before v hs → structure m hs' ≡ carry old new keeping sh (Some (before, v)) (structure m hs)
  carry_structure (Elementary e) before v m hs hs' h = ap (structure m) h
  carry_structure (Enumeration n vs) before v m hs hs' h = ap (structure m) h
  carry_structure (Reference c n) before v m hs hs' h = ap (structure m) h
  carry_structure (Interface c n) before v m hs hs' h = ap (structure m) h
  carry_structure (Array low n sh) before v m hs hs' h = ap (structure m) h
  carry_structure (Structure n fs) before v m hs hs' h = ap (structure m) h
  carry_structure (Instance c n fs) before v m hs hs' h = ap (structure m) h

  pub carry_instance : (sh before : Shape) (v : Value) (m : List ℕ) (hs hs' : Members) → hs' ≡ instance_by old new keeping sh before v hs → instance m hs' ≡ carry old new keeping sh (Some (before, v)) (instance m hs)
  carry_instance (Elementary e) before v m hs hs' h = ap (instance m) h
  carry_instance (Enumeration n vs) before v m hs hs' h = ap (instance m) h
  carry_instance (Reference c n) before v m hs hs' h = ap (instance m) h
  carry_instance (Interface c n) before v m hs hs' h = ap (instance m) h
  carry_instance (Array low n sh) before v m hs hs' h = ap (instance m) h
  carry_instance (Structure n fs) before v m hs hs' h = ap (instance m) h
  carry_instance (Instance c n fs) before v m hs hs' h = ap (instance m) h

  -- ---- what comes from nothing

  mutual
    pub none_carried : (h : Value) (sh : Shape) → carry old new keeping sh None h ≡ h
    none_carried (number z) (Elementary e) = refl
    none_carried (number z) (Enumeration n vs) = refl
    none_carried (number z) (Reference c n) = refl
    none_carried (number z) (Interface c n) = refl
    none_carried (number z) (Array low n sh) = refl
    none_carried (number z) (Structure n fs) = refl
    none_carried (number z) (Instance c n fs) = refl
    none_carried (reference o) (Elementary e) = refl
    none_carried (reference o) (Enumeration n vs) = refl
    none_carried (reference o) (Reference c n) = refl
    none_carried (reference o) (Interface c n) = refl
    none_carried (reference o) (Array low n sh) = refl
    none_carried (reference o) (Structure n fs) = refl
    none_carried (reference o) (Instance c n fs) = refl
    none_carried (array l hs) (Elementary e) = refl
    none_carried (array l hs) (Enumeration n vs) = refl
    none_carried (array l hs) (Reference c n) = refl
    none_carried (array l hs) (Interface c n) = refl
    none_carried (array l hs) (Array low n sh) = ap (array l) (unread_elements hs sh None low (λ i. refl))
    none_carried (array l hs) (Structure n fs) = refl
    none_carried (array l hs) (Instance c n fs) = refl
    none_carried (structure m hs) (Elementary e) = refl
    none_carried (structure m hs) (Enumeration n vs) = refl
    none_carried (structure m hs) (Reference c n) = refl
    none_carried (structure m hs) (Interface c n) = refl
    none_carried (structure m hs) (Array low n sh) = refl
    none_carried (structure m hs) (Structure n fs) = ap (structure m) (unread_members hs fs (structure_pairs old new n) (field_before n None) (λ f. refl))
    none_carried (structure m hs) (Instance c n fs) = refl
    none_carried (instance m hs) (Elementary e) = refl
    none_carried (instance m hs) (Enumeration n vs) = refl
    none_carried (instance m hs) (Reference c n) = refl
    none_carried (instance m hs) (Interface c n) = refl
    none_carried (instance m hs) (Array low n sh) = refl
    none_carried (instance m hs) (Structure n fs) = refl
    none_carried (instance m hs) (Instance c n fs) = ap (instance m) (unread_members hs fs (class_pairs old new c) (variable_before n None) (λ f. refl))

    pub unread_elements : (hs : Values) (sh : Shape) (o : Old) (i : ℤ) → ((j : ℤ) → old_element o j ≡ None) → carry_elements old new keeping sh o i hs ≡ hs
    unread_elements no_values sh o i e = refl
    unread_elements (value_then h hs) sh o i e =
        ap₂ value_then (ap (λ a. carry old new keeping sh a h) (e i) ∙ none_carried h sh) (unread_elements hs sh o (i +ℤ pos 1) e)

    pub unread_members : (hs : Members) (fs : Fields) (ps : Pairs) (part : List ℕ → Old) → ((f : List ℕ) → part f ≡ None) → carry_members old new keeping fs ps part hs ≡ hs
    unread_members no_members fs ps part e = refl
    unread_members (member_then n h hs) no_fields ps part e = refl
    unread_members (member_then n h hs) (field_then v sh fs) ps part e =
        ap₂ (member_then n)
        (either (stays old new keeping v) (carry old new keeping sh (before_by part (old_name ps v.name)) h) h
        (ap (λ a. carry old new keeping sh a h) (nothing_before part (old_name ps v.name) e) ∙ none_carried h sh))
        (unread_members hs fs ps part e)

  -- a variable without an old name gets nothing
  pub unpaired_members : (hs : Members) (fs : Fields) (part : List ℕ → Old) → carry_members old new keeping fs [] part hs ≡ hs
  unpaired_members no_members fs part = refl
  unpaired_members (member_then n h hs) no_fields part = refl
  unpaired_members (member_then n h hs) (field_then v sh fs) part =
      ap₂ (member_then n) (either (stays old new keeping v) (carry old new keeping sh None h) h (none_carried h sh)) (unpaired_members hs fs part)

  members_alike : (hs : Members) (fs : Fields) (ps : Pairs) (one other : List ℕ → Old) → ((f : List ℕ) → one f ≡ other f) → carry_members old new keeping fs ps one hs ≡ carry_members old new keeping fs ps other hs
  members_alike no_members fs ps one other e = refl
  members_alike (member_then n h hs) no_fields ps one other e = refl
  members_alike (member_then n h hs) (field_then v sh fs) ps one other e =
      ap₂ (member_then n)
      (ap (λ a. if stays old new keeping v then h else carry old new keeping sh a h) (before_alike one other (old_name ps v.name) e))
      (members_alike hs fs ps one other e)

  elements_alike : (hs : Values) (sh : Shape) (o : Old) (e : Elements) (i : ℤ) → ((j : ℤ) → old_element o j ≡ element_old e j) → carry_elements old new keeping sh o i hs ≡ elements_carried old new keeping sh e i hs
  elements_alike no_values sh o e i d = refl
  elements_alike (value_then h hs) sh o e i d = ap₂ value_then (ap (λ a. carry old new keeping sh a h) (d i)) (elements_alike hs sh o e (i +ℤ pos 1) d)

  -- ---- the parts of a place of this shape

  module _ (before : Shape) (v : Value) where
    elements_as : (shape of : CodeShape) (low : ℤ) (n : ℕ) (sh : CodeShape) (e : Elements) (hs : Values) → shape ≡ code.Array low n of → sh ≡ of → Some e ≡ elements_in before v
        → elements_carried old new keeping (shape_of sh) e low hs ≡ elements_by old new keeping (shape_of shape) before v hs
    elements_as shape of low n sh e hs is it there =
        ap (λ x. elements_carried old new keeping (shape_of x) e low hs) it
        ∙ sym (elements_alike hs (shape_of of) (Some (before, v)) e low (λ j. elements_found before v e j there))
        ∙ sym (ap (λ x. elements_by old new keeping x before v hs) (ap shape_of is ∙ shape-Array low n of))

    pub elements_written : {A E : Type 0} (r : Result A E) (shape of : CodeShape) (low : ℤ) (n : ℕ) (sh : CodeShape) (e : Elements) (hs hs' : Values) → shape ≡ code.Array low n of → sh ≡ of → Some e ≡ elements_in before v
        → OnOk r (hs' ≡ elements_carried old new keeping (shape_of sh) e low hs) → OnOk r (hs' ≡ elements_by old new keeping (shape_of shape) before v hs)
    elements_written r shape of low n sh e hs hs' is it there h =
        on_equal r hs' (elements_carried old new keeping (shape_of sh) e low hs) (elements_by old new keeping (shape_of shape) before v hs) (elements_as shape of low n sh e hs is it there) h

    pub no_elements_written : (shape of : CodeShape) (low : ℤ) (n : ℕ) (hs : Values) → shape ≡ code.Array low n of → None ≡ elements_in before v → hs ≡ elements_by old new keeping (shape_of shape) before v hs
    no_elements_written shape of low n hs is there =
        sym (unread_elements hs (shape_of of) (Some (before, v)) low (λ j. no_elements before v j there))
        ∙ sym (ap (λ x. elements_by old new keeping x before v hs) (ap shape_of is ∙ shape-Array low n of))

    fields_as : (shape : CodeShape) (n : ℕ) (name : Bor (List ℕ)) (fs gs : List CodeField) (ps : Pairs) (a : Parts) (hs : Members) → shape ≡ code.Structure n name fs → gs ≡ fs → Some a ≡ structure_parts name.now before v → ps ≡ structure_pairs old new name.now
        → carry_members old new keeping (fields_of gs) ps (part_named a) hs ≡ structure_by old new keeping (shape_of shape) before v hs
    fields_as shape n name fs gs ps a hs is it there names =
        ap (λ ds. carry_members old new keeping (fields_of ds) ps (part_named a) hs) it
        ∙ ap (λ qs. carry_members old new keeping (fields_of fs) qs (part_named a) hs) names
        ∙ sym (members_alike hs (fields_of fs) (structure_pairs old new name.now) (field_before name.now (Some (before, v))) (part_named a) (λ f. fields_found name.now f before v a there))
        ∙ sym (ap (λ x. structure_by old new keeping x before v hs) (ap shape_of is ∙ shape-Structure n name fs))

    pub fields_written : {A E : Type 0} (r : Result A E) (shape : CodeShape) (n : ℕ) (name : Bor (List ℕ)) (fs gs : List CodeField) (ps : Pairs) (a : Parts) (hs hs' : Members) → shape ≡ code.Structure n name fs → gs ≡ fs → Some a ≡ structure_parts name.now before v → ps ≡ structure_pairs old new name.now
        → OnOk r (hs' ≡ carry_members old new keeping (fields_of gs) ps (part_named a) hs) → OnOk r (hs' ≡ structure_by old new keeping (shape_of shape) before v hs)
    fields_written r shape n name fs gs ps a hs hs' is it there names h =
        on_equal r hs' (carry_members old new keeping (fields_of gs) ps (part_named a) hs) (structure_by old new keeping (shape_of shape) before v hs) (fields_as shape n name fs gs ps a hs is it there names) h

    pub no_fields_written : (shape : CodeShape) (n : ℕ) (name : Bor (List ℕ)) (fs : List CodeField) (hs : Members) → shape ≡ code.Structure n name fs → None ≡ structure_parts name.now before v → hs ≡ structure_by old new keeping (shape_of shape) before v hs
    no_fields_written shape n name fs hs is there =
        sym (unread_members hs (fields_of fs) (structure_pairs old new name.now) (field_before name.now (Some (before, v))) (λ f. no_fields_found name.now f before v there))
        ∙ sym (ap (λ x. structure_by old new keeping x before v hs) (ap shape_of is ∙ shape-Structure n name fs))

    variables_as : (shape : CodeShape) (c : ℕ) (name : Bor (List ℕ)) (fs gs : List CodeField) (ps : Pairs) (a : Parts) (hs : Members) → shape ≡ code.Instance c name fs → gs ≡ fs → Some a ≡ instance_parts name.now before v → ps ≡ class_pairs old new c
        → carry_members old new keeping (fields_of gs) ps (part_named a) hs ≡ instance_by old new keeping (shape_of shape) before v hs
    variables_as shape c name fs gs ps a hs is it there names =
        ap (λ ds. carry_members old new keeping (fields_of ds) ps (part_named a) hs) it
        ∙ ap (λ qs. carry_members old new keeping (fields_of fs) qs (part_named a) hs) names
        ∙ sym (members_alike hs (fields_of fs) (class_pairs old new c) (variable_before name.now (Some (before, v))) (part_named a) (λ f. variables_found name.now f before v a there))
        ∙ sym (ap (λ x. instance_by old new keeping x before v hs) (ap shape_of is ∙ shape-Instance c name fs))

    pub variables_written : {A E : Type 0} (r : Result A E) (shape : CodeShape) (c : ℕ) (name : Bor (List ℕ)) (fs gs : List CodeField) (ps : Pairs) (a : Parts) (hs hs' : Members) → shape ≡ code.Instance c name fs → gs ≡ fs → Some a ≡ instance_parts name.now before v → ps ≡ class_pairs old new c
        → OnOk r (hs' ≡ carry_members old new keeping (fields_of gs) ps (part_named a) hs) → OnOk r (hs' ≡ instance_by old new keeping (shape_of shape) before v hs)
    variables_written r shape c name fs gs ps a hs hs' is it there names h =
        on_equal r hs' (carry_members old new keeping (fields_of gs) ps (part_named a) hs) (instance_by old new keeping (shape_of shape) before v hs) (variables_as shape c name fs gs ps a hs is it there names) h

    pub no_variables_written : (shape : CodeShape) (c : ℕ) (name : Bor (List ℕ)) (fs : List CodeField) (hs : Members) → shape ≡ code.Instance c name fs → None ≡ instance_parts name.now before v → hs ≡ instance_by old new keeping (shape_of shape) before v hs
    no_variables_written shape c name fs hs is there =
        sym (unread_members hs (fields_of fs) (class_pairs old new c) (variable_before name.now (Some (before, v))) (λ f. no_variables_found name.now f before v there))
        ∙ sym (ap (λ x. instance_by old new keeping x before v hs) (ap shape_of is ∙ shape-Instance c name fs))

    pub unpaired_written : (shape : CodeShape) (c : ℕ) (name : Bor (List ℕ)) (fs : List CodeField) (hs : Members) → shape ≡ code.Instance c name fs → [] ≡ class_pairs old new c → hs ≡ instance_by old new keeping (shape_of shape) before v hs
    unpaired_written shape c name fs hs is names =
        sym (unpaired_members hs (fields_of fs) (variable_before name.now (Some (before, v))))
        ∙ ap (λ ps. carry_members old new keeping (fields_of fs) ps (variable_before name.now (Some (before, v))) hs) names
        ∙ sym (ap (λ x. instance_by old new keeping x before v hs) (ap shape_of is ∙ shape-Instance c name fs))

  -- ---- one place

  pub number_written : (sh before : Shape) (v : Value) (held : CodeValue) (n z y : ℤ) → code_value.Number n ≡ held → z ≡ number_by sh before v n → y ≡ z → value_of (code_value.Number y) ≡ carry old new keeping sh (Some (before, v)) (value_of held)
  number_written sh before v held n z y is e d =
      value-Number y ∙ ap number (d ∙ e) ∙ sym (carry_number sh before v n)
      ∙ ap (carry old new keeping sh (Some (before, v))) (sym (value-Number n) ∙ ap value_of is)

  pub item_stays : (sh : Shape) (e : Elements) (i : ℤ) (vs : Values) (k : ℕ) → None ≡ element_at e i → vs ≡ element_by k (carry old new keeping sh (element_old e i)) vs
  item_stays sh e i vs k h =
      same_values (carry old new keeping sh (element_old e i)) vs k
      (λ v. ap (λ o. carry old new keeping sh (option_map (λ w. (e.shape, w)) o) v) (sym h) ∙ none_carried v sh)

  pub item_written : {A E : Type 0} (r : Result A E) (sh : Shape) (e : Elements) (i : ℤ) (vs : List CodeValue) (k : ℕ) (x y : CodeValue) (w : Value) → Some w ≡ element_at e i → Some x ≡ slice_get vs k → OnOk r (value_of y ≡ carry old new keeping sh (Some (e.shape, w)) (value_of x))
      → OnOk r ((values_of (slice_set vs k y) ≡ element_by k (carry old new keeping sh (element_old e i)) (values_of vs)) × (length (slice_set vs k y) ≡ length vs))
  item_written (Err b) sh e i vs k x y w from there h = tt
  item_written (Ok a) sh e i vs k x y w from there h = (
    values_written (carry old new keeping sh (element_old e i)) vs k x y (sym there) (h ∙ ap (λ o. carry old new keeping sh (option_map (λ z. (e.shape, z)) o) (value_of x)) from),
    values_long vs k y,
  )

  -- one field, by its marks and by what it comes from
  abbrev by_marks : Bool → Shape → Old → Value → Value
  by_marks b sh o h = if b then h else carry old new keeping sh o h

  module _ (f : CodeField) (ps : Pairs) (part : List ℕ → Old) where
    field_carried : (h : Value) → carried old new keeping (field_of f) ps part h ≡ by_marks (f.variable.init_on_change || (f.variable.no_copy && not keeping)) (shape_of f.shape) (before_by part (old_name ps f.variable.name.now)) h
    field_carried h = ap (λ x. carried old new keeping x ps part h) (field-is f)

    pub field_stays : (ms : Members) (k : ℕ) → true ≡ (f.variable.init_on_change || (f.variable.no_copy && not keeping)) → ms ≡ member_by k (carried old new keeping (field_of f) ps part) ms
    field_stays ms k e =
        same_members (carried old new keeping (field_of f) ps part) ms k
        (λ h. field_carried h ∙ ap (λ b. by_marks b (shape_of f.shape) (before_by part (old_name ps f.variable.name.now)) h) (sym e))

    pub field_alone : (ms : Members) (k : ℕ) → None ≡ before_by part (old_name ps f.variable.name.now) → ms ≡ member_by k (carried old new keeping (field_of f) ps part) ms
    field_alone ms k e =
        same_members (carried old new keeping (field_of f) ps part) ms k
        (λ h.
        field_carried h ∙ ap (λ o. by_marks (f.variable.init_on_change || (f.variable.no_copy && not keeping)) (shape_of f.shape) o h) (sym e)
        ∙ either (f.variable.init_on_change || (f.variable.no_copy && not keeping)) (carry old new keeping (shape_of f.shape) None h) h (none_carried h (shape_of f.shape)))

    pub field_written : {A E : Type 0} (r : Result A E) (ms : List CodeMember) (k : ℕ) (m m' : CodeMember) (a : Shape × Value) → false ≡ (f.variable.init_on_change || (f.variable.no_copy && not keeping)) → Some a ≡ before_by part (old_name ps f.variable.name.now) → Some m ≡ slice_get ms k → m'.name ≡ m.name
        → OnOk r (value_of m'.value ≡ carry old new keeping (shape_of f.shape) (Some a) (value_of m.value)) → OnOk r (members_of (slice_set ms k m') ≡ member_by k (carried old new keeping (field_of f) ps part) (members_of ms))
    field_written (Err b) ms k m m' a marks from there name h = tt
    field_written (Ok b) ms k m m' a marks from there name h =
        members_written (carried old new keeping (field_of f) ps part) ms k m m' (sym there) name
        (h ∙ ap (λ o. carry old new keeping (shape_of f.shape) o (value_of m.value)) from
        ∙ ap (λ b. by_marks b (shape_of f.shape) (before_by part (old_name ps f.variable.name.now)) (value_of m.value)) marks
        ∙ sym (field_carried (value_of m.value)))

  -- ---- elements one by one

  module _ (sh : Shape) (e : Elements) where
    -- those from this place on, whose first has this index
    abbrev elements_after : ℕ → ℤ → Values → Values
    elements_after zero i hs = elements_carried old new keeping sh e i hs
    elements_after (suc k) i no_values = no_values
    elements_after (suc k) i (value_then h hs) = value_then h (elements_after k i hs)

    element_next : (k : ℕ) (i : ℤ) (hs : Values) → elements_after (suc k) (i +ℤ pos 1) (element_by k (carry old new keeping sh (element_old e i)) hs) ≡ elements_after k i hs
    element_next zero i no_values = refl
    element_next zero i (value_then h hs) = refl
    element_next (suc k) i no_values = refl
    element_next (suc k) i (value_then h hs) = ap (value_then h) (element_next k i hs)

    elements_done : (k : ℕ) (i : ℤ) (vs : List CodeValue) → length vs ≤ k → elements_after k i (values_of vs) ≡ values_of vs
    elements_done zero i [] l = refl
    elements_done zero i (v ∷ vs) l = absurd (omega (arith, l))
    elements_done (suc k) i [] l = refl
    elements_done (suc k) i (v ∷ vs) l = ap (value_then (value_of v)) (elements_done k i vs (omega (arith, l)))

    -- what is left makes the whole
    pub record ItemsLeft (low : ℤ) (before now : List CodeValue) (k : ℕ) (i : ℤ) : Type 0 where
      pub long : length now ≡ length before
      pub rest : elements_after k i (values_of now) ≡ elements_carried old new keeping sh e low (values_of before)

    module _ (low : ℤ) (before : List CodeValue) where
      pub items_begun : ItemsLeft low before before 0 low
      items_begun = record { long = refl; rest = refl }

      pub items_next : (now next : List CodeValue) (k : ℕ) (i j : ℤ) → j ≡ i +ℤ pos 1 → ItemsLeft low before now k i
          → (values_of next ≡ element_by k (carry old new keeping sh (element_old e i)) (values_of now)) × (length next ≡ length now) → ItemsLeft low before next (k + 1) j
      items_next now next k i j d left h = record {
        long = h.1 ∙ left.long;
        rest =
            let s : k + 1 ≡ suc k = omega arith in
            ap (λ m. elements_after m j (values_of next)) s
            ∙ ap (λ x. elements_after (suc k) x (values_of next)) d
            ∙ ap (elements_after (suc k) (i +ℤ pos 1)) h.0
            ∙ element_next k i (values_of now)
            ∙ left.rest;
      }

      pub items_ended : (now : List CodeValue) (k : ℕ) (i : ℤ) → length before ≤ k → ItemsLeft low before now k i → values_of now ≡ elements_carried old new keeping sh e low (values_of before)
      items_ended now k i l left = let m = left.long in sym (elements_done k i now (omega (arith, l, m))) ∙ left.rest

  -- ---- fields one by one

  module _ (ps : Pairs) (part : List ℕ → Old) where
    -- those from this place on
    abbrev members_after : ℕ → Fields → Members → Members
    members_after zero fs hs = carry_members old new keeping fs ps part hs
    members_after (suc k) fs no_members = no_members
    members_after (suc k) no_fields (member_then n h hs) = member_then n h hs
    members_after (suc k) (field_then v sh fs) (member_then n h hs) = member_then n h (members_after k fs hs)

    member_next : (k : ℕ) (fs : List CodeField) (f : CodeField) (hs : Members) → slice_get fs k ≡ Some f → members_after (suc k) (fields_of fs) (member_by k (carried old new keeping (field_of f) ps part) hs) ≡ members_after k (fields_of fs) hs
    member_next zero [] f hs e = absurd cc
    member_next (suc k) [] f hs e = absurd cc
    member_next zero (g ∷ fs) f no_members e = refl
    member_next zero (g ∷ fs) f (member_then n h hs) e =
        let d : f ≡ g = cc in
        ap (λ x. member_then n (carried old new keeping (field_of x) ps part h) (carry_members old new keeping (fields_of fs) ps part hs)) d
    member_next (suc k) (g ∷ fs) f no_members e = refl
    member_next (suc k) (g ∷ fs) f (member_then n h hs) e = ap (member_then n h) (member_next k fs f hs e)

    members_done : (k : ℕ) (fs : List CodeField) (hs : Members) → length fs ≤ k → members_after k (fields_of fs) hs ≡ hs
    members_done zero [] no_members l = refl
    members_done zero [] (member_then n h hs) l = refl
    members_done zero (f ∷ fs) hs l = absurd (omega (arith, l))
    members_done (suc k) [] no_members l = refl
    members_done (suc k) [] (member_then n h hs) l = refl
    members_done (suc k) (f ∷ fs) no_members l = refl
    members_done (suc k) (f ∷ fs) (member_then n h hs) l = ap (member_then n h) (members_done k fs hs (omega (arith, l)))

    pub record MembersLeft (fs : List CodeField) (before now : Members) (k : ℕ) : Type 0 where
      pub rest : members_after k (fields_of fs) now ≡ carry_members old new keeping (fields_of fs) ps part before

    module _ (fs : List CodeField) (before : Members) where
      pub members_begun : MembersLeft fs before before 0
      members_begun = record { rest = refl }

      pub members_next : (now next : Members) (k : ℕ) (f : CodeField) → slice_get fs k ≡ Some f → MembersLeft fs before now k → next ≡ member_by k (carried old new keeping (field_of f) ps part) now → MembersLeft fs before next (k + 1)
      members_next now next k f e left h = record {
        rest =
            let s : k + 1 ≡ suc k = omega arith in
            ap (λ m. members_after m (fields_of fs) next) s ∙ ap (members_after (suc k) (fields_of fs)) h ∙ member_next k fs f now e ∙ left.rest;
      }

      pub members_ended : (now : Members) (k : ℕ) → length fs ≤ k → MembersLeft fs before now k → now ≡ carry_members old new keeping (fields_of fs) ps part before
      members_ended now k l left = sym (members_done k fs now l) ∙ left.rest
