-- Writes of two fields of one instance commute, and none of them sees a frame.
use Rattle.std.proofs.Common.{◌≡◌, ◌≢◌, ℕ, zero, suc, ◌+◌, List, [], ◌∷◌, ◌++◌, Option, Some, None, refl, sym, ap, ◌∙◌}
use Rattle.plc_text.specs.declared.fault.FaultKind.TheVariants as fault
use Rattle.st_tree.specs.declared.path.Path.{Path}
use Rattle.st_tree.specs.declared.path.Step.{Step}
use Rattle.st_tree.specs.declared.path.Step.TheVariants as step
use Rattle.st_values.specs.Value.{Value, Values, no_values, value_then, number, reference, array, structure, instance, Members, no_members, member_then, Store, element, with_element, with_element_at, member, with_member, part, with_part, place_of_index, value_with, ◌>>=◌ as ◌>>?◌}
use Rattle.st_values.proofs.ValueLaws.{then_some, element_put, member_put, member_stays}
use Rattle.st_meaning.specs.State.{Spot, in_store, Frame, State, Outcome, Done, Fault, go_on, ◌>>=◌, there, push, into, write, set_region}
use Rattle.st_meaning.specs.Call.{Given, for_local, for_variable, set_variables}

-- ---- two members

members_commute : (ms : Members) (j k : ℕ) (a b : Value) → j ≢ k → with_member (with_member ms j a) k b ≡ with_member (with_member ms k b) j a
members_commute no_members j k a b n = refl
members_commute (member_then m v ms) zero zero a b n = absurd (n refl)
members_commute (member_then m v ms) zero (suc k) a b n = refl
members_commute (member_then m v ms) (suc j) zero a b n = refl
members_commute (member_then m v ms) (suc j) (suc k) a b n = ap (λ l. member_then m v l) (members_commute ms j k a b (λ e. n (ap suc e)))

pub member_twice : (ms : Members) (j : ℕ) (a b : Value) → with_member (with_member ms j a) j b ≡ with_member ms j b
member_twice no_members j a b = refl
member_twice (member_then m v ms) zero a b = refl
member_twice (member_then m v ms) (suc j) a b = ap (λ l. member_then m v l) (member_twice ms j a b)

element_twice : (vs : Values) (j : ℕ) (a b : Value) → with_element (with_element vs j a) j b ≡ with_element vs j b
element_twice no_values j a b = refl
element_twice (value_then v vs) zero a b = refl
element_twice (value_then v vs) (suc j) a b = ap (λ l. value_then v l) (element_twice vs j a b)

-- ---- one part

part_twice : (v : Value) (s : Step) (a b : Value) → with_part (with_part v s a) s b ≡ with_part v s b
part_twice (array low vs) (step.Element i) a b = by (place_of_index low i)
  where
    by : (o : Option ℕ) → array low (with_element_at (with_element_at vs o a) o b) ≡ array low (with_element_at vs o b)
    by None = refl
    by (Some k) = ap (array low) (element_twice vs k a b)
part_twice (array low vs) (step.Field k) a b = refl
part_twice (structure name ms) (step.Field k) a b = ap (structure name) (member_twice ms k a b)
part_twice (structure name ms) (step.Element i) a b = refl
part_twice (instance name ms) (step.Field k) a b = ap (instance name) (member_twice ms k a b)
part_twice (instance name ms) (step.Element i) a b = refl
part_twice (number z) s a b = refl
part_twice (reference o) s a b = refl

part_there : (v : Value) (s : Step) (w new : Value) → part v s ≡ Some w → part (with_part v s new) s ≡ Some new
part_there (array low vs) (step.Element i) w new e =
    let a = then_some (place_of_index low i) (λ k. element vs k) w e in
    ap (λ o. o >>? λ k. element (with_element_at vs o new) k) a.1 ∙ element_put vs a.0 w new a.2
part_there (structure name ms) (step.Field k) w new e = member_put ms k w new e
part_there (instance name ms) (step.Field k) w new e = member_put ms k w new e
part_there (array low vs) (step.Field k) w new e = cc
part_there (structure name ms) (step.Element i) w new e = cc
part_there (instance name ms) (step.Element i) w new e = cc
part_there (number z) s w new e = cc
part_there (reference o) s w new e = cc

-- ---- two fields behind the same steps

abbrev both_with : Value → List Step → ℕ → Value → ℕ → Value → Option Value
both_with v ss j a k b = value_with v (ss ++ step.Field j ∷ []) a >>? λ w. value_with w (ss ++ step.Field k ∷ []) b

in_members : (f : Members → Value) (ms : Members) (j k : ℕ) (a b : Value) → j ≢ k
    → (member ms j >>? λ x. member (with_member ms j a) k >>? λ y. Some (f (with_member (with_member ms j a) k b))) ≡ (member ms k >>? λ x. member (with_member ms k b) j >>? λ y. Some (f (with_member (with_member ms k b) j a)))
in_members f ms j k a b n =
    ap (λ o. member ms j >>? λ x. o >>? λ y. Some (f (with_member (with_member ms j a) k b))) (member_stays ms j k a n)
    ∙ (by (member ms j) (member ms k)
    ∙ sym (ap (λ o. member ms k >>? λ x. o >>? λ y. Some (f (with_member (with_member ms k b) j a))) (member_stays ms k j b (λ e. n (sym e)))))
  where
    by : (o u : Option Value) → (o >>? λ x. u >>? λ y. Some (f (with_member (with_member ms j a) k b))) ≡ (u >>? λ x. o >>? λ y. Some (f (with_member (with_member ms k b) j a)))
    by None None = refl
    by None (Some y) = refl
    by (Some x) None = refl
    by (Some x) (Some y) = ap (λ l. Some (f l)) (members_commute ms j k a b n)

fields_flat : (name : List ℕ) (c : List ℕ → Members → Value) (ms : Members) (j k : ℕ) (a b : Value) (o : Option Value) (g : Value → Option Value) → ((x : Value) → g x ≡ (member (with_member ms j a) k >>? λ y. Some (c name (with_member (with_member ms j a) k b))))
    → (o >>? g) ≡ (o >>? λ x. member (with_member ms j a) k >>? λ y. Some (c name (with_member (with_member ms j a) k b)))
fields_flat name c ms j k a b None g h = refl
fields_flat name c ms j k a b (Some x) g h = h x

both_fields : (ss : List Step) (v : Value) (j k : ℕ) (a b : Value) → j ≢ k → both_with v ss j a k b ≡ both_with v ss k b j a
both_fields [] (array low vs) j k a b n = refl
both_fields [] (number z) j k a b n = refl
both_fields [] (reference o) j k a b n = refl
both_fields [] (structure name ms) j k a b n = one (member ms j) j k a b ∙ (in_members (structure name) ms j k a b n ∙ sym (one (member ms k) k j b a))
  where
    one : (o : Option Value) (j k : ℕ) (a b : Value) → ((o >>? λ w. Some (structure name (with_member ms j a))) >>? λ w. part w (step.Field k) >>? λ x. Some (with_part w (step.Field k) b)) ≡ (o >>? λ x. member (with_member ms j a) k >>? λ y. Some (structure name (with_member (with_member ms j a) k b)))
    one None j k a b = refl
    one (Some x) j k a b = refl
both_fields [] (instance name ms) j k a b n = one (member ms j) j k a b ∙ (in_members (instance name) ms j k a b n ∙ sym (one (member ms k) k j b a))
  where
    one : (o : Option Value) (j k : ℕ) (a b : Value) → ((o >>? λ w. Some (instance name (with_member ms j a))) >>? λ w. part w (step.Field k) >>? λ x. Some (with_part w (step.Field k) b)) ≡ (o >>? λ x. member (with_member ms j a) k >>? λ y. Some (instance name (with_member (with_member ms j a) k b)))
    one None j k a b = refl
    one (Some x) j k a b = refl
both_fields (s ∷ ss) v j k a b n = by (part v s) refl (λ w. both_fields ss w j k a b n)
  where
    -- the second write comes behind the first one
    two : (w : Value) → part v s ≡ Some w → (j k : ℕ) (a b : Value) (o : Option Value) → ((o >>? λ w'. Some (with_part v s w')) >>? λ u. value_with u (s ∷ (ss ++ step.Field k ∷ [])) b) ≡ ((o >>? λ w'. value_with w' (ss ++ step.Field k ∷ []) b) >>? λ x. Some (with_part v s x))
    two w e j k a b None = refl
    two w e j k a b (Some w') =
        ap (λ o. o >>? λ x. value_with x (ss ++ step.Field k ∷ []) b >>? λ y. Some (with_part (with_part v s w') s y)) (part_there v s w w' e)
        ∙ inner (value_with w' (ss ++ step.Field k ∷ []) b)
      where
        inner : (o : Option Value) → (o >>? λ y. Some (with_part (with_part v s w') s y)) ≡ (o >>? λ x. Some (with_part v s x))
        inner None = refl
        inner (Some y) = ap Some (part_twice v s w' y)

    by : (o : Option Value) → part v s ≡ o → ((w : Value) → both_with w ss j a k b ≡ both_with w ss k b j a) → ((o >>? λ w. value_with w (ss ++ step.Field j ∷ []) a >>? λ w'. Some (with_part v s w')) >>? λ u. value_with u (s ∷ (ss ++ step.Field k ∷ [])) b) ≡ ((o >>? λ w. value_with w (ss ++ step.Field k ∷ []) b >>? λ w'. Some (with_part v s w')) >>? λ u. value_with u (s ∷ (ss ++ step.Field j ∷ [])) a)
    by None e h = refl
    by (Some w) e h =
        two w e j k a b (value_with w (ss ++ step.Field j ∷ []) a)
        ∙ (ap (λ o. o >>? λ x. Some (with_part v s x)) (h w)
        ∙ sym (two w e k j b a (value_with w (ss ++ step.Field k ∷ []) b)))

-- ---- runs

abbrev field_spot : Path → ℕ → Spot
field_spot q k = into (in_store q) (step.Field k)

-- two writes in a region
abbrev finished : ℕ → State → ℕ → Option Value → Outcome (Unit {0})
finished line s r None = Fault fault.Null line
finished line s r (Some w) = Done tt (record s { store = with_member s.store r w })

two_writes : (q : Path) (j k : ℕ) (a b : Value) (line : ℕ) (s : State) (v : Value) → member s.store q.region ≡ Some v
    → (write (field_spot q j) a >>= λ _. write (field_spot q k) b) line s ≡ finished line s q.region (both_with v q.steps j a k b)
two_writes q j k a b line s v e =
    ap (λ o. go_on (go_on (there o line s) (λ v t. go_on (there (value_with v (q.steps ++ step.Field j ∷ []) a) line t) (λ w u. set_region q.region w line u))) (λ _ t. write (field_spot q k) b line t)) e
    ∙ by (value_with v (q.steps ++ step.Field j ∷ []) a)
  where
    by : (o : Option Value) → go_on (go_on (there o line s) (λ w u. set_region q.region w line u)) (λ _ t. write (field_spot q k) b line t) ≡ finished line s q.region (o >>? λ w. value_with w (q.steps ++ step.Field k ∷ []) b)
    by None = refl
    by (Some w) =
        ap (λ o. go_on (there o line (record s { store = with_member s.store q.region w })) (λ x t. go_on (there (value_with x (q.steps ++ step.Field k ∷ []) b) line t) (λ y u. set_region q.region y line u))) (member_put s.store q.region v w e)
        ∙ inner (value_with w (q.steps ++ step.Field k ∷ []) b)
      where
        inner : (o : Option Value) → go_on (there o line (record s { store = with_member s.store q.region w })) (λ y u. set_region q.region y line u) ≡ finished line s q.region o
        inner None = refl
        inner (Some y) = ap (λ (l : Store). Done tt (record s { store = l })) (member_twice s.store q.region w y)

pub writes_commute : (q : Path) (j k : ℕ) (a b : Value) (line : ℕ) (s : State) → j ≢ k → (write (field_spot q j) a >>= λ _. write (field_spot q k) b) line s ≡ (write (field_spot q k) b >>= λ _. write (field_spot q j) a) line s
writes_commute q j k a b line s n = by (member s.store q.region) refl
  where
    none : (j k : ℕ) (a b : Value) → member s.store q.region ≡ None → (write (field_spot q j) a >>= λ _. write (field_spot q k) b) line s ≡ Fault fault.Null line
    none j k a b e = ap (λ o. go_on (go_on (there o line s) (λ v t. go_on (there (value_with v (q.steps ++ step.Field j ∷ []) a) line t) (λ w u. set_region q.region w line u))) (λ _ t. write (field_spot q k) b line t)) e

    by : (o : Option Value) → member s.store q.region ≡ o → (write (field_spot q j) a >>= λ _. write (field_spot q k) b) line s ≡ (write (field_spot q k) b >>= λ _. write (field_spot q j) a) line s
    by None e = none j k a b e ∙ sym (none k j b a e)
    by (Some v) e = two_writes q j k a b line s v e ∙ (ap (finished line s q.region) (both_fields q.steps v j k a b n) ∙ sym (two_writes q k j b a line s v e))

-- what goes on is the same where it is the same from each state
pub go_same : {A B : Type 0} (o : Outcome A) (f g : A → State → Outcome B) → ((a : A) (s : State) → f a s ≡ g a s) → go_on o f ≡ go_on o g
go_same (Done a s) f g h = h a s
go_same (Fault k l) f g h = refl

pub go_again : {A B C : Type 0} (o : Outcome A) (f : A → State → Outcome B) (g : B → State → Outcome C) → go_on (go_on o f) g ≡ go_on o (λ a s. go_on (f a s) g)
go_again (Done a s) f g = refl
go_again (Fault k l) f g = refl

-- ---- inputs of a block

pub sets_again : (own : Option Path) (k : ℕ) (v : Value) (xs ys : List Given) (line : ℕ) (s : State) → ((t : State) → set_variables own xs line t ≡ set_variables own ys line t) → set_variables own (for_variable k v ∷ xs) line s ≡ set_variables own (for_variable k v ∷ ys) line s
sets_again own k v xs ys line s h = go_same (there own line s) _ _ (λ q t. go_same (write (field_spot q k) v line t) _ _ (λ _ u. h u))

pub sets_commute : (own : Option Path) (j k : ℕ) (a b : Value) (xs : List Given) (line : ℕ) (s : State) → j ≢ k → set_variables own (for_variable j a ∷ (for_variable k b ∷ xs)) line s ≡ set_variables own (for_variable k b ∷ (for_variable j a ∷ xs)) line s
sets_commute None j k a b xs line s n = refl
sets_commute (Some q) j k a b xs line s n =
    sym (go_again (write (field_spot q j) a line s) (λ _ t. write (field_spot q k) b line t) (λ _ u. set_variables (Some q) xs line u))
    ∙ (ap (λ o. go_on o (λ _ u. set_variables (Some q) xs line u)) (writes_commute q j k a b line s n)
    ∙ go_again (write (field_spot q k) b line s) (λ _ t. write (field_spot q j) a line t) (λ _ u. set_variables (Some q) xs line u))

-- no write of the store sees a frame
pub write_then_push : (q : Path) (k : ℕ) (v : Value) (f : Frame) (line : ℕ) (s : State) → (write (field_spot q k) v >>= λ _. push f) line s ≡ (push f >>= λ _. write (field_spot q k) v) line s
write_then_push q k v f line s = by (member s.store q.region)
  where
    inner : (o : Option Value) → go_on (go_on (there o line s) (λ w u. set_region q.region w line u)) (λ _ t. push f line t) ≡ go_on (there o line (record s { frames = f ∷ s.frames })) (λ w u. set_region q.region w line u)
    inner None = refl
    inner (Some w) = refl

    by : (o : Option Value) → go_on (go_on (there o line s) (λ x t. go_on (there (value_with x (q.steps ++ step.Field k ∷ []) v) line t) (λ w u. set_region q.region w line u))) (λ _ t. push f line t)
        ≡ go_on (there o line (record s { frames = f ∷ s.frames })) (λ x t. go_on (there (value_with x (q.steps ++ step.Field k ∷ []) v) line t) (λ w u. set_region q.region w line u))
    by None = refl
    by (Some x) = inner (value_with x (q.steps ++ step.Field k ∷ []) v)

pub sets_then_push : (own : Option Path) (given : List Given) (f : Frame) (line : ℕ) (s : State) → (set_variables own given >>= λ _. push f) line s ≡ (push f >>= λ _. set_variables own given) line s
sets_then_push own [] f line s = refl
sets_then_push own (for_local n slot ∷ given) f line s = sets_then_push own given f line s
sets_then_push None (for_variable k v ∷ given) f line s = refl
sets_then_push (Some q) (for_variable k v ∷ given) f line s =
    go_again (write (field_spot q k) v line s) (λ _ t. set_variables (Some q) given line t) (λ _ t. push f line t)
    ∙ (go_same (write (field_spot q k) v line s) _ _ (λ _ t. sets_then_push (Some q) given f line t)
    ∙ (sym (go_again (write (field_spot q k) v line s) (λ _ t. push f line t) (λ _ t. set_variables (Some q) given line t))
    ∙ ap (λ o. go_on o (λ _ t. set_variables (Some q) given line t)) (write_then_push q k v f line s)))
