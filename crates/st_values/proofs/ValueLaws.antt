-- What is read and replaced in values and stores.
use Rattle.std.proofs.Common.{◌≡◌, ◌≢◌, ℕ, zero, suc, ℤ, pos, negsuc, List, [], ◌∷◌, Option, Some, None, refl, sym, ap, ◌∙◌, subst, ⊎_elim, arith}
use Rattle.std.specs.Prelude.{◌-ℤ◌}
use Rattle.std.proofs.lemmas.Int.{ints}
use Rattle.st_tree.specs.declared.path.Step.TheVariants as step
use Rattle.st_values.specs.Value.{Path, Step, Value, number, reference, array, structure, instance, Values, no_values, value_then, Members, no_members, member_then, Store, names_of, ◌>>=◌, element, with_element, with_element_at, member, with_member, natural, place_of_index, part, with_part, value_at, value_with, at, put}
use Rattle.st_values.specs.ValueLaws.{Apart, ArePathsApart, ValueLaws, StoreLaws}

-- what a chain of two steps came from
pub then_some : {A B : Type 0} (o : Option A) (f : A → Option B) (b : B) → (o >>= f) ≡ Some b → (a : A) × (o ≡ Some a) × (f a ≡ Some b)
then_some None f b e = cc
then_some (Some a) f b e = (a, refl, e)

pub one_some : {A : Type 0} (o : Option A) (a b : A) → o ≡ Some a → o ≡ Some b → a ≡ b
one_some o a b e f = cc

-- ---- elements and members

pub element_put : (vs : Values) (i : ℕ) (w new : Value) → element vs i ≡ Some w → element (with_element vs i new) i ≡ Some new
element_put no_values i w new e = cc
element_put (value_then v vs) zero w new e = refl
element_put (value_then v vs) (suc i) w new e = element_put vs i w new e

pub element_stays : (vs : Values) (i j : ℕ) (new : Value) → i ≢ j → element (with_element vs i new) j ≡ element vs j
element_stays no_values i j new n = refl
element_stays (value_then v vs) zero zero new n = absurd (n refl)
element_stays (value_then v vs) zero (suc j) new n = refl
element_stays (value_then v vs) (suc i) zero new n = refl
element_stays (value_then v vs) (suc i) (suc j) new n = element_stays vs i j new (λ e. n (ap suc e))

element_back : (vs : Values) (i : ℕ) (w new : Value) → element vs i ≡ Some w → with_element (with_element vs i new) i w ≡ vs
element_back no_values i w new e = refl
element_back (value_then v vs) zero w new e = let h : w ≡ v = cc in ap (λ x. value_then x vs) h
element_back (value_then v vs) (suc i) w new e = ap (value_then v) (element_back vs i w new e)

pub member_put : (ms : Members) (i : ℕ) (w new : Value) → member ms i ≡ Some w → member (with_member ms i new) i ≡ Some new
member_put no_members i w new e = cc
member_put (member_then n v ms) zero w new e = refl
member_put (member_then n v ms) (suc i) w new e = member_put ms i w new e

pub member_stays : (ms : Members) (i j : ℕ) (new : Value) → i ≢ j → member (with_member ms i new) j ≡ member ms j
member_stays no_members i j new n = refl
member_stays (member_then m v ms) zero zero new n = absurd (n refl)
member_stays (member_then m v ms) zero (suc j) new n = refl
member_stays (member_then m v ms) (suc i) zero new n = refl
member_stays (member_then m v ms) (suc i) (suc j) new n = member_stays ms i j new (λ e. n (ap suc e))

member_back : (ms : Members) (i : ℕ) (w new : Value) → member ms i ≡ Some w → with_member (with_member ms i new) i w ≡ ms
member_back no_members i w new e = refl
member_back (member_then n v ms) zero w new e = let h : w ≡ v = cc in ap (λ x. member_then n x ms) h
member_back (member_then n v ms) (suc i) w new e = ap (member_then n v) (member_back ms i w new e)

pub names_stay : (ms : Members) (i : ℕ) (new : Value) → names_of (with_member ms i new) ≡ names_of ms
names_stay no_members i new = refl
names_stay (member_then n v ms) zero new = refl
names_stay (member_then n v ms) (suc i) new = ap (λ ns. n ∷ ns) (names_stay ms i new)

-- ---- steps

natural_is : (z : ℤ) (n : ℕ) → natural z ≡ Some n → z ≡ pos n
natural_is (pos m) n e = cc
natural_is (negsuc m) n e = cc

-- two indices of one place are the same
pub index_once : (low i j : ℤ) (k : ℕ) → place_of_index low i ≡ Some k → place_of_index low j ≡ Some k → i ≡ j
index_once low i j k e f =
    let a : i -ℤ low ≡ pos k = natural_is (i -ℤ low) k e in
    let b : j -ℤ low ≡ pos k = natural_is (j -ℤ low) k f in
    omega (arith, ints)

-- an element is there only where the index has a place
element_at : (o : Option ℕ) (vs : Values) (w : Value) → (o >>= λ k. element vs k) ≡ Some w → (k : ℕ) × (o ≡ Some k) × (element vs k ≡ Some w)
element_at o vs w e = then_some o (λ k. element vs k) w e

part_put : (v : Value) (s : Step) (w new : Value) → part v s ≡ Some w → part (with_part v s new) s ≡ Some new
part_put (array low vs) (step.Element i) w new e =
    let a = element_at (place_of_index low i) vs w e in
    ap (λ o. o >>= λ k. element (with_element_at vs o new) k) a.1 ∙ element_put vs a.0 w new a.2
part_put (structure name ms) (step.Field k) w new e = member_put ms k w new e
part_put (instance name ms) (step.Field k) w new e = member_put ms k w new e
part_put (array low vs) (step.Field k) w new e = cc
part_put (structure name ms) (step.Element i) w new e = cc
part_put (instance name ms) (step.Element i) w new e = cc
part_put (number z) s w new e = cc
part_put (reference o) s w new e = cc

whole_back : (v : Value) (s : Step) (w new : Value) → part v s ≡ Some w → with_part (with_part v s new) s w ≡ v
whole_back (array low vs) (step.Element i) w new e =
    let a = element_at (place_of_index low i) vs w e in
    ap (λ o. array low (with_element_at (with_element_at vs o new) o w)) a.1 ∙ ap (array low) (element_back vs a.0 w new a.2)
whole_back (structure name ms) (step.Field k) w new e = ap (structure name) (member_back ms k w new e)
whole_back (instance name ms) (step.Field k) w new e = ap (instance name) (member_back ms k w new e)
whole_back (array low vs) (step.Field k) w new e = cc
whole_back (structure name ms) (step.Element i) w new e = cc
whole_back (instance name ms) (step.Element i) w new e = cc
whole_back (number z) s w new e = cc
whole_back (reference o) s w new e = cc

elements_stay : (low i j : ℤ) (vs : Values) (a b : Option ℕ) (new : Value) → place_of_index low i ≡ a → place_of_index low j ≡ b → i ≢ j → (b >>= λ k. element (with_element_at vs a new) k) ≡ (b >>= λ k. element vs k)
elements_stay low i j vs None b new e f n = refl
elements_stay low i j vs (Some k) None new e f n = refl
elements_stay low i j vs (Some k) (Some l) new e f n =
    element_stays vs k l new (λ q. n (index_once low i j k e (f ∙ ap Some (sym q))))

-- a part behind another step stays
part_stays : (v : Value) (s t : Step) (new : Value) → s ≢ t → part (with_part v s new) t ≡ part v t
part_stays (array low vs) (step.Element i) (step.Element j) new n =
    elements_stay low i j vs (place_of_index low i) (place_of_index low j) new refl refl (λ e. n (ap step.Element e))
part_stays (array low vs) (step.Element i) (step.Field k) new n = refl
part_stays (array low vs) (step.Field k) t new n = refl
part_stays (structure name ms) (step.Field k) (step.Field l) new n = member_stays ms k l new (λ e. n (ap step.Field e))
part_stays (structure name ms) (step.Field k) (step.Element j) new n = refl
part_stays (structure name ms) (step.Element i) t new n = refl
part_stays (instance name ms) (step.Field k) (step.Field l) new n = member_stays ms k l new (λ e. n (ap step.Field e))
part_stays (instance name ms) (step.Field k) (step.Element j) new n = refl
part_stays (instance name ms) (step.Element i) t new n = refl
part_stays (number z) s t new n = refl
part_stays (reference o) s t new n = refl

-- ---- ways

-- the parts of a replacement at a step
pub record Made (v new v' : Value) (s : Step) (ss : List Step) : Type 0 where
  pub was : Value
  pub becomes : Value
  pub there : part v s ≡ Some was
  pub below : value_with was ss new ≡ Some becomes
  pub is : with_part v s becomes ≡ v'

pub made : (v new v' : Value) (s : Step) (ss : List Step) → value_with v (s ∷ ss) new ≡ Some v' → Made v new v' s ss
made v new v' s ss e =
    let a = then_some (part v s) (λ w. value_with w ss new >>= λ w'. Some (with_part v s w')) v' e in
    let b = then_some (value_with a.0 ss new) (λ w'. Some (with_part v s w')) v' a.2 in
    let f = b.2 in
    record { was = a.0; becomes = b.0; there = a.1; below = b.1; is = cc }

same_value : (ss : List Step) (v new v' : Value) → value_with v ss new ≡ Some v' → value_at v' ss ≡ Some new
same_value [] v new v' e = cc
same_value (s ∷ ss) v new v' e =
    let m = made v new v' s ss e in
    let there : part v' s ≡ Some m.becomes = subst (λ u. part u s ≡ Some m.becomes) m.is (part_put v s m.was m.becomes m.there) in
    ap (λ o. o >>= λ w. value_at w ss) there ∙ same_value ss m.was new m.becomes m.below

other_value : (ss ts : List Step) (v new v' : Value) → Apart ss ts → value_with v ss new ≡ Some v' → value_at v' ts ≡ value_at v ts
other_value [] ts v new v' apart e = absurd apart
other_value (s ∷ ss) [] v new v' apart e = absurd apart
other_value (s ∷ ss) (t ∷ ts) v new v' apart e =
    let m = made v new v' s ss e in
    ⊎_elim
    (λ n. ap (λ o. o >>= λ w. value_at w ts) (subst (λ u. part u t ≡ part v t) m.is (part_stays v s t m.becomes n)))
    (λ h.
    let there : part v' t ≡ Some m.becomes = subst (λ r. part v' r ≡ Some m.becomes) h.0 (subst (λ u. part u s ≡ Some m.becomes) m.is (part_put v s m.was m.becomes m.there)) in
    let was : part v t ≡ Some m.was = subst (λ r. part v r ≡ Some m.was) h.0 m.there in
    ap (λ o. o >>= λ w. value_at w ts) there ∙ other_value ss ts m.was new m.becomes h.1 m.below ∙ sym (ap (λ o. o >>= λ w. value_at w ts) was))
    apart

value_there : (ss : List Step) (v new old : Value) → value_at v ss ≡ Some old → (v' : Value) × (value_with v ss new ≡ Some v')
value_there [] v new old e = (new, refl)
value_there (s ∷ ss) v new old e =
    let a = then_some (part v s) (λ w. value_at w ss) old e in
    let b = value_there ss a.0 new old a.2 in
    (with_part v s b.0, ap (λ o. o >>= λ w. value_with w ss new >>= λ w'. Some (with_part v s w')) a.1 ∙ ap (λ o. o >>= λ w'. Some (with_part v s w')) b.1)

value_back : (ss : List Step) (v v' old new : Value) → value_at v ss ≡ Some old → value_with v ss new ≡ Some v' → value_with v' ss old ≡ Some v
value_back [] v v' old new h k = sym h
value_back (s ∷ ss) v v' old new h k =
    let a = then_some (part v s) (λ w. value_at w ss) old h in
    let m = made v new v' s ss k in
    let same = one_some (part v s) m.was a.0 m.there a.1 in
    let inner = value_back ss a.0 m.becomes old new a.2 (subst (λ w. value_with w ss new ≡ Some m.becomes) same m.below) in
    ap (λ x. value_with x (s ∷ ss) old) (sym m.is)
    ∙ ap (λ o. o >>= λ w. value_with w ss old >>= λ w'. Some (with_part (with_part v s m.becomes) s w')) (part_put v s a.0 m.becomes a.1)
    ∙ ap (λ o. o >>= λ w'. Some (with_part (with_part v s m.becomes) s w')) inner
    ∙ ap Some (whole_back v s a.0 m.becomes a.1)

pub value_laws : ValueLaws
value_laws = record {
  same = λ v new v' ss e. same_value ss v new v' e;
  other = λ v new v' ss ts a e. other_value ss ts v new v' a e;
  there = λ v new old ss e. value_there ss v new old e;
  back = λ v v' old new ss h k. value_back ss v v' old new h k;
}

-- ---- stores

-- the parts of a replacement in a store
pub record Put (s s' : Store) (q : Path) (new : Value) : Type 0 where
  pub was : Value
  pub becomes : Value
  pub there : member s q.region ≡ Some was
  pub below : value_with was q.steps new ≡ Some becomes
  pub is : with_member s q.region becomes ≡ s'

pub put_in : (s s' : Store) (q : Path) (new : Value) → put s q new ≡ Some s' → Put s s' q new
put_in s s' q new e =
    let a = then_some (member s q.region) (λ v. value_with v q.steps new >>= λ w. Some (with_member s q.region w)) s' e in
    let b = then_some (value_with a.0 q.steps new) (λ w. Some (with_member s q.region w)) s' a.2 in
    let f = b.2 in
    record { was = a.0; becomes = b.0; there = a.1; below = b.1; is = cc }

same_store : (s s' : Store) (q : Path) (new : Value) → put s q new ≡ Some s' → at s' q ≡ Some new
same_store s s' q new e =
    let m = put_in s s' q new e in
    let there : member s' q.region ≡ Some m.becomes = subst (λ t. member t q.region ≡ Some m.becomes) m.is (member_put s q.region m.was m.becomes m.there) in
    ap (λ o. o >>= λ v. value_at v q.steps) there ∙ same_value q.steps m.was new m.becomes m.below

other_store : (s s' : Store) (q r : Path) (new : Value) → ArePathsApart q r → put s q new ≡ Some s' → at s' r ≡ at s r
other_store s s' q r new apart e =
    let m = put_in s s' q new e in
    ⊎_elim
    (λ n. ap (λ o. o >>= λ v. value_at v r.steps) (subst (λ t. member t r.region ≡ member s r.region) m.is (member_stays s q.region r.region m.becomes n)))
    (λ h.
    let there : member s' r.region ≡ Some m.becomes = subst (λ i. member s' i ≡ Some m.becomes) h.0 (subst (λ t. member t q.region ≡ Some m.becomes) m.is (member_put s q.region m.was m.becomes m.there)) in
    let was : member s r.region ≡ Some m.was = subst (λ i. member s i ≡ Some m.was) h.0 m.there in
    ap (λ o. o >>= λ v. value_at v r.steps) there ∙ other_value q.steps r.steps m.was new m.becomes h.1 m.below ∙ sym (ap (λ o. o >>= λ v. value_at v r.steps) was))
    apart

store_there : (s : Store) (q : Path) (new old : Value) → at s q ≡ Some old → (s' : Store) × (put s q new ≡ Some s')
store_there s q new old e =
    let a = then_some (member s q.region) (λ v. value_at v q.steps) old e in
    let b = value_there q.steps a.0 new old a.2 in
    (with_member s q.region b.0, ap (λ o. o >>= λ v. value_with v q.steps new >>= λ w. Some (with_member s q.region w)) a.1 ∙ ap (λ o. o >>= λ w. Some (with_member s q.region w)) b.1)

store_back : (s s' : Store) (q : Path) (old new : Value) → at s q ≡ Some old → put s q new ≡ Some s' → put s' q old ≡ Some s
store_back s s' q old new h k =
    let a = then_some (member s q.region) (λ v. value_at v q.steps) old h in
    let m = put_in s s' q new k in
    let same = one_some (member s q.region) m.was a.0 m.there a.1 in
    let inner = value_back q.steps a.0 m.becomes old new a.2 (subst (λ w. value_with w q.steps new ≡ Some m.becomes) same m.below) in
    ap (λ x. put x q old) (sym m.is)
    ∙ ap (λ o. o >>= λ v. value_with v q.steps old >>= λ w. Some (with_member (with_member s q.region m.becomes) q.region w)) (member_put s q.region a.0 m.becomes a.1)
    ∙ ap (λ o. o >>= λ w. Some (with_member (with_member s q.region m.becomes) q.region w)) inner
    ∙ ap Some (member_back s q.region a.0 m.becomes a.1)

store_names : (s s' : Store) (q : Path) (new : Value) → put s q new ≡ Some s' → names_of s' ≡ names_of s
store_names s s' q new e =
    let m = put_in s s' q new e in subst (λ t. names_of t ≡ names_of s) m.is (names_stay s q.region m.becomes)

pub store_laws : StoreLaws
store_laws = record { same = same_store; other = other_store; there = store_there; back = store_back; names = store_names }
