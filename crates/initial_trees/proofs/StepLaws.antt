-- What the steps of the walk find.
use Rattle.std.proofs.Common.{◌≡◌, ◌<◌, ℕ, zero, suc, ℤ, Bool, true, false, if◌then◌else◌, List, take, Option, Some, None, refl, sym, ap, ap₂, ◌∙◌, arith}
use Rattle.std.specs.Borrow.{Bor}
use Rattle.std.specs.Prelude.{option_map, slice_get}
use Rattle.plc_text.specs.declared.text.Text.{Text}
use Rattle.st_types.specs.declared.st_type.StType.{StType}
use Rattle.st_tree.specs.declared.program.Note.{Note}
use Rattle.st_tree.specs.Initial.{Initial, FieldInits}
use Rattle.st_values.specs.Initial.{number_given, list_given, fields_given, init}
use Rattle.st_values.specs.Program.{Class, Program, class_at, class_variables}
use Rattle.st_values.specs.Shape.{Shape, shape_within}
use Rattle.st_values.specs.Value.{Value, number, reference, array, structure, instance, Values, no_values, value_then, Members, ◌>>=◌}
use Rattle.program_tables.specs.declared.st_initial.members.Members as tables
use Rattle.program_tables.specs.declared.st_initial.variables.Variable as held
use Rattle.program_tables.specs.st_initial.Members.{items_at, list_at}
use Rattle.program_tables.specs.st_initial.Variables.{variables_of, fields_at}
use Rattle.value_trees.specs.declared.value.Value.{Value as CodeValue}
use Rattle.value_trees.specs.declared.value.Value.TheVariants as code
use Rattle.value_trees.specs.declared.value.Member.{Member as CodeMember}
use Rattle.value_trees.specs.Value.{value_of, values_of, members_of, value-Structure, value-Instance}
use Rattle.initial_trees.specs.Private.Kinds.{structure_name_at}
use Rattle.initial_trees.specs.Private.Trees.{value_within, members_within, elements_within, array_within, structure_within, instance_within}
use Rattle.initial_trees.proofs.ListLaws.{cut_given}

-- ---- places without parts

pub number_found : (v : Value) (i : Option (Initial Note)) (o : Option Value) (b : Bool) → o ≡ (if b then Some (number (number_given i)) else None) → b ≡ true → v ≡ number (number_given i) → Some v ≡ o
number_found v i o b h t e = ap Some e ∙ sym (h ∙ ap (λ b. if b then Some (number (number_given i)) else None) t)

pub null_found : (v : Value) (o : Option Value) (b : Bool) → o ≡ (if b then Some (reference None) else None) → b ≡ true → v ≡ reference None → Some v ≡ o
null_found v o b h t e = ap Some e ∙ sym (h ∙ ap (λ b. if b then Some (reference None) else None) t)

pub array_seen : (v : Value) (low : ℤ) (o : Option Value) (e : Option (List CodeValue)) (vs : Option Values) (xs : List CodeValue) → o ≡ option_map (λ vs. array low vs) vs → option_map values_of e ≡ vs → e ≡ Some xs → v ≡ array low (values_of xs) → Some v ≡ o
array_seen v low o e vs xs h g is a = ap Some a ∙ sym (h ∙ ap (option_map (λ vs. array low vs)) (sym g ∙ ap (option_map values_of) is))

pub no_array_seen : (low : ℤ) (o : Option Value) (e : Option (List CodeValue)) (vs : Option Values) → o ≡ option_map (λ vs. array low vs) vs → option_map values_of e ≡ vs → e ≡ None → None ≡ o
no_array_seen low o e vs h g is = sym (h ∙ ap (option_map (λ vs. array low vs)) (sym g ∙ ap (option_map values_of) is))

pub nothing_found : (o v : Option Value) (b : Bool) → o ≡ (if b then v else None) → b ≡ false → None ≡ o
nothing_found o v b h f = sym (h ∙ ap (λ b. if b then v else None) f)

-- ---- arrays

-- one without elements has a value where their type has one
pub none_needed : (p : Program) (n : ℕ) (t : StType) (i : Option (Initial Note)) (o : Option CodeValue) (vs : Option Values) (end count : ℕ) → option_map value_of o ≡ value_within p n t None → vs ≡ option_map (λ x. no_values) (option_map value_of o) → end ≡ count → end ≡ 0
    → vs ≡ array_within p n t count i
none_needed p n t i o vs end count ov h e z =
    let none : 0 ≡ count = sym z ∙ e in
    h ∙ by (option_map value_of o) ∙ ap (λ a. a >>= λ x. Some no_values) ov ∙ ap (λ count. array_within p n t count i) none
  where
    by : (a : Option Value) → option_map (λ x. no_values) a ≡ (a >>= λ x. Some no_values)
    by None = refl
    by (Some x) = refl

-- whether a type has a value does not hang on what is given, so that the first element tells it
first_tells : (p : Program) (n : ℕ) (t : StType) (i : Option (Initial Note)) (count : ℕ) → 0 < count → array_within p n t count i ≡ elements_within p n t (list_given i) 0 count
first_tells p n t i zero l = absurd (omega arith)
first_tells p n t i (suc m) l = by (shape_within p n t) (elements_within p n t (list_given i) 1 m) (slice_get (list_given i) 0)
  where
    by : (o : Option Shape) (rest : Option Values) (first : Option (Initial Note))
        → (option_map (λ sh. init sh None) o >>= λ x. option_map (λ sh. init sh first) o >>= λ x. rest >>= λ rest. Some (value_then x rest)) ≡ (option_map (λ sh. init sh first) o >>= λ x. rest >>= λ rest. Some (value_then x rest))
    by None rest first = refl
    by (Some sh) rest first = refl

pub array_found : (p : Program) (n : ℕ) (t : StType) (i : Option (Initial Note)) (end count : ℕ) (is : List (Initial Note)) (vs : Option Values) → end ≡ count → 0 < end → is ≡ take end (list_given i) → vs ≡ elements_within p n t is 0 end → vs ≡ array_within p n t count i
array_found p n t i end count is vs e l g h =
    h ∙ ap (λ is. elements_within p n t is 0 end) g ∙ cut_given p n t (list_given i) end 0 end (omega arith) ∙ sym (first_tells p n t i end l) ∙ ap (λ count. array_within p n t count i) e

-- ---- structures and instances

pub structure_found : (p : Program) (n k : ℕ) (i : Option (Initial Note)) (m : tables.Members) (named : Option (Bor Text)) (name : Bor Text) (copy : List ℕ) (got : Option (Bor (List held.Variable))) (gs : FieldInits Note) (found : Option (List CodeMember)) (fields : List CodeMember)
    → option_map (λ t. t.now) named ≡ structure_name_at p k → named ≡ Some name → copy ≡ name.now → option_map (λ vs. vs.now) got ≡ slice_get m.structures k → list_at m.structures k ≡ fields_at p k → fields_given i ≡ gs
    → option_map members_of found ≡ members_within p n (variables_of (items_at (option_map (λ vs. vs.now) got))) gs → found ≡ Some fields → Some (value_of (code.Structure copy fields)) ≡ structure_within p n k i
structure_found p n k i m named name copy got gs found fields e1 e2 e3 e4 e5 e6 e7 e8 =
    let a : structure_name_at p k ≡ Some name.now = sym e1 ∙ ap (option_map (λ t. t.now)) e2 in
    let v : fields_at p k ≡ variables_of (items_at (option_map (λ vs. vs.now) got)) = sym (ap (λ o. variables_of (items_at o)) e4 ∙ e5) in
    let b : members_within p n (fields_at p k) (fields_given i) ≡ Some (members_of fields) = ap₂ (λ vs gs. members_within p n vs gs) v e6 ∙ sym e7 ∙ ap (option_map members_of) e8 in
    ap Some (value-Structure copy fields ∙ ap (λ n. structure n (members_of fields)) e3)
    ∙ sym (ap (λ o. o >>= λ name. members_within p n (fields_at p k) (fields_given i) >>= λ ms. Some (structure name ms)) a ∙ ap (λ o. o >>= λ ms. Some (structure name.now ms)) b)

through : (o : Option Class) (name : List ℕ) (f : Option Members) → option_map (λ k. k.name) o ≡ Some name → (o >>= λ k. f >>= λ ms. Some (instance k.name ms)) ≡ (f >>= λ ms. Some (instance name ms))
through None name f e = absurd cc
through (Some k) name f e = let n : k.name ≡ name = cc in ap (λ n. f >>= λ ms. Some (instance n ms)) n

pub instance_found : (p : Program) (n k : ℕ) (i : Option (Initial Note)) (m : tables.Members) (named : Option (Bor Text)) (name : Bor Text) (copy : List ℕ) (got : Option (Bor (List held.Variable))) (gs : FieldInits Note) (found : Option (List CodeMember)) (fields : List CodeMember)
    → option_map (λ t. t.now) named ≡ option_map (λ k. k.name) (class_at p k) → named ≡ Some name → copy ≡ name.now → option_map (λ vs. vs.now) got ≡ slice_get m.classes k → list_at m.classes k ≡ class_variables p k → fields_given i ≡ gs
    → option_map members_of found ≡ members_within p n (variables_of (items_at (option_map (λ vs. vs.now) got))) gs → found ≡ Some fields → Some (value_of (code.Instance copy fields)) ≡ instance_within p n k i
instance_found p n k i m named name copy got gs found fields e1 e2 e3 e4 e5 e6 e7 e8 =
    let a : option_map (λ k. k.name) (class_at p k) ≡ Some name.now = sym e1 ∙ ap (option_map (λ t. t.now)) e2 in
    let v : class_variables p k ≡ variables_of (items_at (option_map (λ vs. vs.now) got)) = sym (ap (λ o. variables_of (items_at o)) e4 ∙ e5) in
    let b : members_within p n (class_variables p k) (fields_given i) ≡ Some (members_of fields) = ap₂ (λ vs gs. members_within p n vs gs) v e6 ∙ sym e7 ∙ ap (option_map members_of) e8 in
    ap Some (value-Instance copy fields ∙ ap (λ n. instance n (members_of fields)) e3)
    ∙ sym (through (class_at p k) name.now (members_within p n (class_variables p k) (fields_given i)) a ∙ ap (λ o. o >>= λ ms. Some (instance name.now ms)) b)
