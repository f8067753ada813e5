-- Lists of the code against the lists of values.
use Rattle.std.proofs.Common.{◌≡◌, ◌≤◌, length, ℕ, zero, suc, ℤ, List, [], ◌∷◌, Option, Some, None, Result, Ok, Err, refl, sym, ap, subst, ◌∙◌, Bor}
use Rattle.std.specs.Prelude.{slice_get, slice_set, option_map}
use Rattle.std.specs.Option.{option_copied}
use Rattle.std.proofs.lemmas.Option.{slice_get_past}
use Rattle.st_tree.specs.declared.path.Step.{Step}
use Rattle.st_tree.specs.declared.path.Step.TheVariants as step
use Rattle.st_values.specs.Value.{Value, array, structure, instance, Values, no_values, value_then, Members, no_members, member_then, element, with_element, member, with_member, part, with_part, with_element_at, place_of_index, value_at, value_with, ◌>>=◌}
use Rattle.value_trees.specs.declared.value.Value.{Value as CodeValue}
use Rattle.value_trees.specs.declared.value.Member.{Member as CodeMember}
use Rattle.value_trees.specs.Value.{value_of, member_of, values_of, members_of, member-is}
use Rattle.value_trees.specs.Exchange.{Exchanged}
use Rattle.value_trees.specs.Private.Parts.{ElementExchanged, MemberExchanged, Lost}

-- ---- what stands at a place

pub elements_get : (vs : List CodeValue) (i : ℕ) → element (values_of vs) i ≡ option_map value_of (slice_get vs i)
elements_get [] i = refl
elements_get (v ∷ vs) zero = refl
elements_get (v ∷ vs) (suc i) = elements_get vs i

pub members_get : (ms : List CodeMember) (i : ℕ) → member (members_of ms) i ≡ option_map (λ m. value_of m.value) (slice_get ms i)
members_get [] i = refl
members_get (m ∷ ms) zero = ap (λ x. Some x.1) (member-is m)
members_get (m ∷ ms) (suc i) = members_get ms i

pub seen : (o : Option (Bor CodeValue)) → option_map value_of (option_copied o) ≡ option_map (λ w. value_of w.now) o
seen None = refl
seen (Some b) = refl

-- the element of an index
pub element_of_index : (low i : ℤ) (vs : List CodeValue) (k : ℕ) → place_of_index low i ≡ Some k → part (array low (values_of vs)) (step.Element i) ≡ option_map value_of (slice_get vs k)
element_of_index low i vs k e = ap (λ o. o >>= λ n. element (values_of vs) n) e ∙ elements_get vs k

-- an index that no element has
pub no_element_of_index : (low i : ℤ) (vs : List CodeValue) (n : ℕ) → n ≡ length vs → ((k : ℕ) → place_of_index low i ≡ Some k → n ≤ k) → part (array low (values_of vs)) (step.Element i) ≡ None
no_element_of_index low i vs n e h = by (place_of_index low i) h
  where
    by : (o : Option ℕ) → ((k : ℕ) → o ≡ Some k → n ≤ k) → (o >>= λ k. element (values_of vs) k) ≡ None
    by None g = refl
    by (Some k) g = elements_get vs k ∙ ap (option_map value_of) (slice_get_past vs k (subst (λ m. m ≤ k) e (g k refl)))

-- ---- what is put there

elements_set : (vs : List CodeValue) (i : ℕ) (w : CodeValue) → values_of (slice_set vs i w) ≡ with_element (values_of vs) i (value_of w)
elements_set [] i w = refl
elements_set (v ∷ vs) zero w = refl
elements_set (v ∷ vs) (suc i) w = ap (value_then (value_of v)) (elements_set vs i w)

members_set : (ms : List CodeMember) (i : ℕ) (m m' : CodeMember) → slice_get ms i ≡ Some m → m'.name ≡ m.name → members_of (slice_set ms i m') ≡ with_member (members_of ms) i (value_of m'.value)
members_set [] i m m' e n = refl
members_set (x ∷ ms) zero m m' e n =
    let same : (member_of m').0 ≡ (member_of x).0 = cc (ap (λ y. y.0) (member-is m'), ap (λ y. y.0) (member-is x), ap (λ o. o) e, n) in
    let value : (member_of m').1 ≡ value_of m'.value = ap (λ y. y.1) (member-is m') in
    ap (λ k. member_then k (member_of m').1 (members_of ms)) same ∙ ap (λ v. member_then (member_of x).0 v (members_of ms)) value
members_set (x ∷ ms) (suc i) m m' e n = ap (member_then (member_of x).0 (member_of x).1) (members_set ms i m m' e n)

element_same : (vs : Values) (i : ℕ) (w : Value) → element vs i ≡ Some w → with_element vs i w ≡ vs
element_same no_values i w e = refl
element_same (value_then v vs) zero w e = let h : v ≡ w = cc in ap (λ x. value_then x vs) (sym h)
element_same (value_then v vs) (suc i) w e = ap (value_then v) (element_same vs i w e)

member_same : (ms : Members) (i : ℕ) (w : Value) → member ms i ≡ Some w → with_member ms i w ≡ ms
member_same no_members i w e = refl
member_same (member_then n v ms) zero w e = let h : v ≡ w = cc in ap (λ x. member_then n x ms) (sym h)
member_same (member_then n v ms) (suc i) w e = ap (member_then n v) (member_same ms i w e)

-- ---- from a part to what holds it

pub element_exchanged : (r : Result CodeValue CodeValue) (low i : ℤ) (vs : List CodeValue) (k : ℕ) (ss : List Step) (new : Value) (x x' : CodeValue)
    → place_of_index low i ≡ Some k → slice_get vs k ≡ Some x → Exchanged r (value_of x) ss new (value_of x') → ElementExchanged r low (values_of vs) i ss new (values_of (slice_set vs k x'))
element_exchanged (Ok old) low i vs k ss new x x' p e h = record {
  from = value_of x;
  to = value_of x';
  there = element_of_index low i vs k p ∙ ap (option_map value_of) e;
  reads = h.0;
  writes = h.1;
  is = elements_set vs k x' ∙ ap (λ o. with_element_at (values_of vs) o (value_of x')) (sym p);
}
element_exchanged (Err back) low i vs k ss new x x' p e h =
    let there = element_of_index low i vs k p ∙ ap (option_map value_of) e in
    record {
      reads = ap (λ o. o >>= λ w. value_at w ss) there ∙ h.0;
      writes = ap (λ o. o >>= λ w. value_with w ss new) there ∙ h.1;
      is = elements_set vs k x' ∙ ap (with_element (values_of vs) k) h.2 ∙ element_same (values_of vs) k (value_of x) (elements_get vs k ∙ ap (option_map value_of) e);
      kept = h.3;
    }

pub no_element : (low i : ℤ) (vs : List CodeValue) (ss : List Step) (new : Value) → part (array low (values_of vs)) (step.Element i) ≡ None
    → Lost Values (part (array low (values_of vs)) (step.Element i)) ss new new (values_of vs) (values_of vs)
no_element low i vs ss new e = record { reads = ap (λ o. o >>= λ w. value_at w ss) e; writes = ap (λ o. o >>= λ w. value_with w ss new) e; is = refl; kept = refl }

pub member_exchanged : (r : Result CodeValue CodeValue) (ms : List CodeMember) (i : ℕ) (ss : List Step) (new : Value) (m m' : CodeMember)
    → slice_get ms i ≡ Some m → m'.name ≡ m.name → Exchanged r (value_of m.value) ss new (value_of m'.value) → MemberExchanged r (members_of ms) i ss new (members_of (slice_set ms i m'))
member_exchanged (Ok old) ms i ss new m m' e n h = record {
  from = value_of m.value;
  to = value_of m'.value;
  there = members_get ms i ∙ ap (option_map (λ x. value_of x.value)) e;
  reads = h.0;
  writes = h.1;
  is = members_set ms i m m' e n;
}
member_exchanged (Err back) ms i ss new m m' e n h =
    let there = members_get ms i ∙ ap (option_map (λ x. value_of x.value)) e in
    record {
      reads = ap (λ o. o >>= λ w. value_at w ss) there ∙ h.0;
      writes = ap (λ o. o >>= λ w. value_with w ss new) there ∙ h.1;
      is = members_set ms i m m' e n ∙ ap (with_member (members_of ms) i) h.2 ∙ member_same (members_of ms) i (value_of m.value) there;
      kept = h.3;
    }

pub no_member : (ms : List CodeMember) (i : ℕ) (ss : List Step) (new : Value) → slice_get ms i ≡ None → Lost Members (member (members_of ms) i) ss new new (members_of ms) (members_of ms)
no_member ms i ss new e =
    let there = members_get ms i ∙ ap (option_map (λ x. value_of x.value)) e in
    record { reads = ap (λ o. o >>= λ w. value_at w ss) there; writes = ap (λ o. o >>= λ w. value_with w ss new) there; is = refl; kept = refl }

none_on : {A B C : Type 0} (o : Option A) (f : A → Option B) (g : B → Option C) → (o >>= f) ≡ None → (o >>= λ a. f a >>= g) ≡ None
none_on None f g h = refl
none_on (Some a) f g h = ap (λ o. o >>= g) h

pub array_exchanged : (r : Result CodeValue CodeValue) (low i : ℤ) (vs vs' : Values) (ss : List Step) (new : Value) → ElementExchanged r low vs i ss new vs' → Exchanged r (array low vs) (step.Element i ∷ ss) new (array low vs')
array_exchanged (Ok old) low i vs vs' ss new h = (
  ap (λ o. o >>= λ w. value_at w ss) h.there ∙ h.reads,
  ap (λ o. o >>= λ w. value_with w ss new >>= λ w'. Some (with_part (array low vs) (step.Element i) w')) h.there ∙ ap (λ o. o >>= λ w'. Some (with_part (array low vs) (step.Element i) w')) h.writes ∙ ap (λ l. Some (array low l)) (sym h.is),
)
array_exchanged (Err back) low i vs vs' ss new h =
    (h.reads, none_on (part (array low vs) (step.Element i)) (λ w. value_with w ss new) (λ w'. Some (with_part (array low vs) (step.Element i) w')) h.writes, ap (array low) h.is, h.kept)

pub structure_exchanged : (r : Result CodeValue CodeValue) (n : List ℕ) (ms ms' : Members) (i : ℕ) (ss : List Step) (new : Value) → MemberExchanged r ms i ss new ms' → Exchanged r (structure n ms) (step.Field i ∷ ss) new (structure n ms')
structure_exchanged (Ok old) n ms ms' i ss new h = (
  ap (λ o. o >>= λ w. value_at w ss) h.there ∙ h.reads,
  ap (λ o. o >>= λ w. value_with w ss new >>= λ w'. Some (structure n (with_member ms i w'))) h.there ∙ ap (λ o. o >>= λ w'. Some (structure n (with_member ms i w'))) h.writes ∙ ap (λ l. Some (structure n l)) (sym h.is),
)
structure_exchanged (Err back) n ms ms' i ss new h =
    (h.reads, none_on (member ms i) (λ w. value_with w ss new) (λ w'. Some (structure n (with_member ms i w'))) h.writes, ap (structure n) h.is, h.kept)

pub instance_exchanged : (r : Result CodeValue CodeValue) (n : List ℕ) (ms ms' : Members) (i : ℕ) (ss : List Step) (new : Value) → MemberExchanged r ms i ss new ms' → Exchanged r (instance n ms) (step.Field i ∷ ss) new (instance n ms')
instance_exchanged (Ok old) n ms ms' i ss new h = (
  ap (λ o. o >>= λ w. value_at w ss) h.there ∙ h.reads,
  ap (λ o. o >>= λ w. value_with w ss new >>= λ w'. Some (instance n (with_member ms i w'))) h.there ∙ ap (λ o. o >>= λ w'. Some (instance n (with_member ms i w'))) h.writes ∙ ap (λ l. Some (instance n l)) (sym h.is),
)
instance_exchanged (Err back) n ms ms' i ss new h =
    (h.reads, none_on (member ms i) (λ w. value_with w ss new) (λ w'. Some (instance n (with_member ms i w'))) h.writes, ap (instance n) h.is, h.kept)
