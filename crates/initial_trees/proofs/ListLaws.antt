-- Values that are found one after the other.
use Rattle.std.proofs.Common.{◌≡◌, ◌≤◌, ◌<◌, ℕ, zero, suc, ◌+◌, ◌-◌, List, [], ◌∷◌, ◌++◌, length, take, drop, get_or, Option, Some, None, Result, Ok, Err, OnOk, refl, sym, ap, ap₂, ◌∙◌, arith}
use Rattle.std.specs.Prelude.{slice_get, option_map}
use Rattle.st_types.specs.declared.st_type.StType.{StType}
use Rattle.st_tree.specs.declared.program.Note.{Note}
use Rattle.st_tree.specs.Initial.{Initial, FieldInits}
use Rattle.st_rules.proofs.ListLaws.{drop-at, drop-end}
use Rattle.st_values.specs.Program.{Program}
use Rattle.st_values.specs.Value.{Value, Values, no_values, value_then, Members, no_members, member_then, ◌>>=◌}
use Rattle.program_tables.specs.declared.st_initial.variables.Variable as held
use Rattle.program_tables.specs.st_initial.Variables.{variable_of, variables_of}
use Rattle.value_trees.specs.declared.value.Value.{Value as CodeValue}
use Rattle.value_trees.specs.declared.value.Member.{Member as CodeMember}
use Rattle.value_trees.specs.Value.{value_of, values_of, member_of, members_of, member-is}
use Rattle.initial_trees.specs.Private.Trees.{given_to, value_within, members_within, elements_within, members_behind, values_behind}

-- ---- one behind the others

pub member_pushed : (xs : List CodeMember) (m : CodeMember) → members_of (xs ++ m ∷ []) ≡ members_behind (members_of xs) (member_then m.name (value_of m.value) no_members)
member_pushed [] m = ap (λ x. member_then x.0 x.1 no_members) (member-is m)
member_pushed (x ∷ xs) m = ap (member_then (member_of x).0 (member_of x).1) (member_pushed xs m)

pub value_pushed : (xs : List CodeValue) (v : CodeValue) → values_of (xs ++ v ∷ []) ≡ values_behind (values_of xs) (value_then (value_of v) no_values)
value_pushed [] v = refl
value_pushed (x ∷ xs) v = ap (value_then (value_of x)) (value_pushed xs v)

pub pushed_member : {T E : Type 0} (r : Result T E) (xs xs' : List CodeMember) (name want : List ℕ) (v : CodeValue) → name ≡ want → OnOk r (xs' ≡ xs ++ record { name = name; value = v } ∷ [])
    → OnOk r (members_of xs' ≡ members_behind (members_of xs) (member_then want (value_of v) no_members))
pushed_member (Ok a) xs xs' name want v n e = ap members_of e ∙ member_pushed xs (record { name = name; value = v }) ∙ ap (λ n. members_behind (members_of xs) (member_then n (value_of v) no_members)) n
pushed_member (Err x) xs xs' name want v n e = e

pub pushed_value : {T E : Type 0} (r : Result T E) (xs xs' : List CodeValue) (v : CodeValue) → OnOk r (xs' ≡ xs ++ v ∷ []) → OnOk r (values_of xs' ≡ values_behind (values_of xs) (value_then (value_of v) no_values))
pushed_value (Ok a) xs xs' v e = ap values_of e ∙ value_pushed xs v
pushed_value (Err x) xs xs' v e = e

pub members_end : (ms : Members) → members_behind ms no_members ≡ ms
members_end no_members = refl
members_end (member_then n v ms) = ap (member_then n v) (members_end ms)

pub members_one : (ms : Members) (n : List ℕ) (v : Value) (rest : Members) → members_behind (members_behind ms (member_then n v no_members)) rest ≡ members_behind ms (member_then n v rest)
members_one no_members n v rest = refl
members_one (member_then a b ms) n v rest = ap (member_then a b) (members_one ms n v rest)

values_end : (vs : Values) → values_behind vs no_values ≡ vs
values_end no_values = refl
values_end (value_then v vs) = ap (value_then v) (values_end vs)

values_one : (vs : Values) (v : Value) (rest : Values) → values_behind (values_behind vs (value_then v no_values)) rest ≡ values_behind vs (value_then v rest)
values_one no_values v rest = refl
values_one (value_then x vs) v rest = ap (value_then x) (values_one vs v rest)

same_option : {A : Type 0} (o : Option A) → option_map (λ a. a) o ≡ o
same_option None = refl
same_option (Some a) = refl

-- ---- variables

-- what was found, and what the rest gives, is the whole
pub record MembersLeft (p : Program) (n : ℕ) (vs : List held.Variable) (gs : FieldInits Note) (k : ℕ) (found : List CodeMember) : Type 0 where
  pub by : option_map (λ rest. members_behind (members_of found) rest) (members_within p n (variables_of (drop k vs)) gs) ≡ members_within p n (variables_of vs) gs

module _ (p : Program) (n : ℕ) (vs : List held.Variable) (gs : FieldInits Note) where
  pub members_begun : MembersLeft p n vs gs 0 []
  members_begun = record { by = same_option (members_within p n (variables_of vs) gs) }

  one_member : (ms ms' : Members) (name : List ℕ) (x : Value) (o : Option Members) → ms' ≡ members_behind ms (member_then name x no_members)
      → option_map (λ rest. members_behind ms' rest) o ≡ option_map (λ rest. members_behind ms rest) (o >>= λ rest. Some (member_then name x rest))
  one_member ms ms' name x None e = refl
  one_member ms ms' name x (Some rest) e = ap (λ m. Some (members_behind m rest)) e ∙ ap Some (members_one ms name x rest)

  from_here : (k : ℕ) (v : held.Variable) → k < length vs → v ≡ get_or vs k v
      → members_within p n (variables_of (drop k vs)) gs ≡ (value_within p n v.kind.now (given_to (variable_of v) gs) >>= λ x. members_within p n (variables_of (drop (k + 1) vs)) gs >>= λ rest. Some (member_then v.name.now x rest))
  from_here k v l is = ap (λ ws. members_within p n (variables_of ws) gs) (drop-at vs k v l is)

  pub members_next : (k : ℕ) (v : held.Variable) (found found' : List CodeMember) (x : Value) → k < length vs → v ≡ get_or vs k v → MembersLeft p n vs gs k found
      → value_within p n v.kind.now (given_to (variable_of v) gs) ≡ Some x → members_of found' ≡ members_behind (members_of found) (member_then v.name.now x no_members) → MembersLeft p n vs gs (k + 1) found'
  members_next k v found found' x l is left at more = record {
    by = one_member (members_of found) (members_of found') v.name.now x (members_within p n (variables_of (drop (k + 1) vs)) gs) more
        ∙ ap (option_map (λ rest. members_behind (members_of found) rest)) (sym (from_here k v l is ∙ ap (λ o. o >>= λ x. members_within p n (variables_of (drop (k + 1) vs)) gs >>= λ rest. Some (member_then v.name.now x rest)) at))
        ∙ left.by;
  }

  pub members_stopped : (k : ℕ) (v : held.Variable) (found : List CodeMember) → k < length vs → v ≡ get_or vs k v → MembersLeft p n vs gs k found
      → value_within p n v.kind.now (given_to (variable_of v) gs) ≡ None → members_within p n (variables_of vs) gs ≡ None
  members_stopped k v found l is left at =
      sym left.by ∙ ap (option_map (λ rest. members_behind (members_of found) rest)) (from_here k v l is ∙ ap (λ o. o >>= λ x. members_within p n (variables_of (drop (k + 1) vs)) gs >>= λ rest. Some (member_then v.name.now x rest)) at)

  pub members_ended : (k : ℕ) (found : List CodeMember) → length vs ≤ k → MembersLeft p n vs gs k found → Some (members_of found) ≡ members_within p n (variables_of vs) gs
  members_ended k found l left =
      ap Some (sym (members_end (members_of found))) ∙ ap (λ ws. option_map (λ rest. members_behind (members_of found) rest) (members_within p n (variables_of ws) gs)) (sym (drop-end vs k l)) ∙ left.by

-- ---- elements

pub record ElementsLeft (p : Program) (n : ℕ) (t : StType) (is : List (Initial Note)) (end k : ℕ) (found : List CodeValue) : Type 0 where
  pub by : option_map (λ rest. values_behind (values_of found) rest) (elements_within p n t is k (end - k)) ≡ elements_within p n t is 0 end

module _ (p : Program) (n : ℕ) (t : StType) (is : List (Initial Note)) (end : ℕ) where
  pub elements_begun : ElementsLeft p n t is end 0 []
  elements_begun = record { by = let e : end - 0 ≡ end = omega arith in same_option (elements_within p n t is 0 (end - 0)) ∙ ap (elements_within p n t is 0) e }

  one_element : (vs vs' : Values) (x : Value) (o : Option Values) → vs' ≡ values_behind vs (value_then x no_values)
      → option_map (λ rest. values_behind vs' rest) o ≡ option_map (λ rest. values_behind vs rest) (o >>= λ rest. Some (value_then x rest))
  one_element vs vs' x None e = refl
  one_element vs vs' x (Some rest) e = ap (λ m. Some (values_behind m rest)) e ∙ ap Some (values_one vs x rest)

  from_index : (k : ℕ) → k < end
      → elements_within p n t is k (end - k) ≡ (value_within p n t (slice_get is k) >>= λ x. elements_within p n t is (k + 1) (end - (k + 1)) >>= λ rest. Some (value_then x rest))
  from_index k l =
      let e : end - k ≡ suc (end - (k + 1)) = omega arith in
      let s : suc k ≡ k + 1 = omega arith in
      ap (elements_within p n t is k) e ∙ ap (λ j. value_within p n t (slice_get is k) >>= λ x. elements_within p n t is j (end - (k + 1)) >>= λ rest. Some (value_then x rest)) s

  pub elements_next : (k : ℕ) (given : Option (Initial Note)) (found found' : List CodeValue) (x : Value) → k < end → ElementsLeft p n t is end k found → given ≡ slice_get is k
      → value_within p n t given ≡ Some x → values_of found' ≡ values_behind (values_of found) (value_then x no_values) → ElementsLeft p n t is end (k + 1) found'
  elements_next k given found found' x l left g at more = record {
    by = one_element (values_of found) (values_of found') x (elements_within p n t is (k + 1) (end - (k + 1))) more
        ∙ ap (option_map (λ rest. values_behind (values_of found) rest)) (sym (from_index k l ∙ ap (λ o. o >>= λ x. elements_within p n t is (k + 1) (end - (k + 1)) >>= λ rest. Some (value_then x rest)) (ap (value_within p n t) (sym g) ∙ at)))
        ∙ left.by;
  }

  pub elements_stopped : (k : ℕ) (given : Option (Initial Note)) (found : List CodeValue) → k < end → ElementsLeft p n t is end k found → given ≡ slice_get is k → value_within p n t given ≡ None → elements_within p n t is 0 end ≡ None
  elements_stopped k given found l left g at =
      sym left.by ∙ ap (option_map (λ rest. values_behind (values_of found) rest)) (from_index k l ∙ ap (λ o. o >>= λ x. elements_within p n t is (k + 1) (end - (k + 1)) >>= λ rest. Some (value_then x rest)) (ap (value_within p n t) (sym g) ∙ at))

  pub elements_ended : (k : ℕ) (found : List CodeValue) → end ≤ k → ElementsLeft p n t is end k found → Some (values_of found) ≡ elements_within p n t is 0 end
  elements_ended k found l left =
      let e : end - k ≡ 0 = omega arith in
      ap Some (sym (values_end (values_of found))) ∙ ap (λ j. option_map (λ rest. values_behind (values_of found) rest) (elements_within p n t is k j)) (sym e) ∙ left.by

-- what is given past the end of a list is not asked for
pub cut_given : (p : Program) (n : ℕ) (t : StType) (is : List (Initial Note)) (end k m : ℕ) → k + m ≤ end → elements_within p n t (take end is) k m ≡ elements_within p n t is k m
cut_given p n t is end k zero l = refl
cut_given p n t is end k (suc m) l =
    ap₂ (λ g o. value_within p n t g >>= λ x. o >>= λ rest. Some (value_then x rest)) (take_get end is k (omega arith)) (cut_given p n t is end (suc k) m (omega arith))
  where
    take_get : (e : ℕ) (is : List (Initial Note)) (j : ℕ) → j < e → slice_get (take e is) j ≡ slice_get is j
    take_get zero is j h = absurd (omega arith)
    take_get (suc e) [] j h = refl
    take_get (suc e) (i ∷ is) zero h = refl
    take_get (suc e) (i ∷ is) (suc j) h = take_get e is j (omega arith)
