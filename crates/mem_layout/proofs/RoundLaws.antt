-- Tables that are filled in rounds.
use Rattle.std.proofs.Common.{◌≡◌, ◌≢◌, ◌<◌, ℕ, zero, suc, ◌+◌, Bool, true, false, List, [], ◌∷◌, ◌++◌, length, get_or, Option, Some, None, refl, sym, ap, ◌∙◌, subst, arith, ⊎_elim, inl, inr}
use Rattle.std.specs.Prelude.{◌⊎◌, slice_get, slice_set, IfSome, IsSome}
use Rattle.std.proofs.lemmas.Bool.{cases_lt}
use Rattle.std.proofs.lemmas.Option.{slice_get-get_or}
use Rattle.st_values.specs.Program.{Variable, Program}
use Rattle.st_values.specs.Shape.{Shape, Fields, fields_by, shape_within}
use Rattle.program_tables.specs.declared.st_initial.members.Members as code
use Rattle.program_tables.specs.declared.st_initial.variables.Variable as held
use Rattle.program_tables.specs.st_initial.Variables.{variables_of}
use Rattle.program_tables.specs.st_initial.Members.{items_at, list_at, Holds}
use Rattle.mem_layout.specs.store_bytes.Place.{gap, ending}
use Rattle.mem_layout.proofs.store_bytes.Apart.{same_nat}
use Rattle.mem_layout.proofs.store_bytes.Store.{get_set_same, get_set_other}
use Rattle.mem_layout.specs.Layout.{IsSmall, EachIsSmall}
use Rattle.mem_layout.specs.declared.sizes.Entry.{Entry}
use Rattle.mem_layout.specs.declared.sizes.Tables.{Tables}
use Rattle.mem_layout.specs.Private.Table.{list_of, named, members, start, wide, LaysOut, AreTables, Reach}
use Rattle.mem_layout.specs.Private.Entry.{IsFinished}
use Rattle.mem_layout.specs.Private.Rounds.{with_entry, is_laid_out, Has, Stays, AreVariables}
use Rattle.mem_layout.proofs.Unfold.{opens, made_of, class_known, type_known}

-- ---- one more entry

long_set : {A : Type 0} (xs : List A) (k : ℕ) (x : A) → length (slice_set xs k x) ≡ length xs
long_set [] k x = refl
long_set (a ∷ xs) zero x = refl
long_set (a ∷ xs) (suc k) x = ap suc (long_set xs k x)

with_same : (t : Tables) (class : Bool) (k : ℕ) (o : Option Entry) → list_of (with_entry t class k o) class ≡ slice_set (list_of t class) k o
with_same t true k o = refl
with_same t false k o = refl

-- an entry elsewhere is as it was
with_other : (t : Tables) (class class' : Bool) (k k' : ℕ) (o : Option Entry) → (class ≡ class' → k' ≢ k) → slice_get (list_of (with_entry t class k o) class') k' ≡ slice_get (list_of t class') k'
with_other t true true k k' o n = get_set_other t.classes k k' o (n refl)
with_other t true false k k' o n = refl
with_other t false true k k' o n = refl
with_other t false false k k' o n = get_set_other t.structures k k' o (n refl)

same_bool : (a b : Bool) → (a ≡ b) ⊎ (a ≢ b)
same_bool true true = inl refl
same_bool true false = inr (λ e. cc)
same_bool false true = inr (λ e. cc)
same_bool false false = inl refl

same_place : (class class' : Bool) (k k' : ℕ) → ((class ≡ class') × (k' ≡ k)) ⊎ (class ≡ class' → k' ≢ k)
same_place class class' k k' = ⊎_elim
    (λ (e : class ≡ class'). ⊎_elim (λ (i : k' ≡ k). inl (e, i)) (λ (n : k' ≢ k). inr (λ q. n)) (same_nat k' k))
    (λ (n : class ≢ class'). inr (λ q. absurd (n q))) (same_bool class class')

-- what the fields make of an entry
laid_of : (p : Program) (class : Bool) (k n : ℕ) (sh : Shape) (e : Entry) → ((m : ℕ) (fs : Fields) → fields_by (shape_within p m) (members p class k) ≡ Some fs → IsFinished class fs e) → shape_within p n (named class k) ≡ Some sh → LaysOut class e sh
laid_of p class k n sh e f h =
    let o = opens p n class k sh h in
    let m = made_of class sh o.fields o.made in
    let x = f o.depth o.fields o.unfolds in
    record { fields = o.fields; made = o.made; rows = x.rows; measure = record { size-is = x.size-is ∙ sym m.size-is; alignment-is = x.alignment-is ∙ sym m.alignment-is } }

some_there : (t : Tables) (class : Bool) (k : ℕ) → k < length (list_of t class) → (x : Option Entry) × (slice_get (list_of t class) k ≡ Some x)
some_there t class k h = (get_or (list_of t class) k None, slice_get-get_or (list_of t class) k None h)

placed : (o : Option Entry) (e : Entry) (P : Entry → Type 0) → IfSome o P → o ≡ Some e → P e
placed None e P h q = cc
placed (Some x) e P h q = let r : x ≡ e = cc in subst P r h

pub tables_more : (p : Program) (t : Tables) (class : Bool) (k : ℕ) (o : Option Entry) → k < length (list_of t class) → AreTables p t → ((m : ℕ) (fs : Fields) → fields_by (shape_within p m) (members p class k) ≡ Some fs → IfSome o (λ e. IsFinished class fs e)) → AreTables p (with_entry t class k o)
tables_more p t class k o w f g = record { entry = each }
  where
    each : (class' : Bool) (k' : ℕ) (e : Entry) (n : ℕ) (sh : Shape) → slice_get (list_of (with_entry t class k o) class') k' ≡ Some (Some e) → shape_within p n (named class' k') ≡ Some sh → LaysOut class' e sh
    each class' k' e n sh q h = ⊎_elim
        (λ (s : (class ≡ class') × (k' ≡ k)).
        let h' : shape_within p n (named class k) ≡ Some sh = ap (λ c. shape_within p n (named c k)) s.0 ∙ (ap (λ i. shape_within p n (named class' i)) (sym s.1) ∙ h) in
        let there = some_there t class k w in
        let new : slice_get (list_of (with_entry t class k o) class) k ≡ Some o = ap (λ l. slice_get l k) (with_same t class k o) ∙ get_set_same (list_of t class) k o there.0 there.1 in
        let q' : slice_get (list_of (with_entry t class k o) class) k ≡ Some (Some e) = ap (λ c. slice_get (list_of (with_entry t class k o) c) k) s.0 ∙ (ap (λ i. slice_get (list_of (with_entry t class k o) class') i) (sym s.1) ∙ q) in
        let both : Some o ≡ Some (Some e) = sym new ∙ q' in
        let is : o ≡ Some e = cc in
        subst (λ c. LaysOut c e sh) s.0 (laid_of p class k n sh e (λ m fs u. placed o e (IsFinished class fs) (g m fs u) is) h'))
        (λ (s : class ≡ class' → k' ≢ k). f.entry class' k' e n sh (sym (with_other t class class' k k' o s) ∙ q) h)
        (same_place class class' k k')

laid_some : (x : Option (Option Entry)) (e : Entry) → x ≡ Some (Some e) → is_laid_out x ≡ true
laid_some x e h = ap is_laid_out h

long_with : (t : Tables) (class class' : Bool) (k : ℕ) (o : Option Entry) → length (list_of (with_entry t class k o) class') ≡ length (list_of t class')
long_with t true true k o = long_set t.classes k o
long_with t true false k o = refl
long_with t false true k o = refl
long_with t false false k o = long_set t.structures k o

-- where nothing was laid out before, all else stays
pub stays_with : (t : Tables) (class : Bool) (k : ℕ) (o : Option Entry) → is_laid_out (slice_get (list_of t class) k) ≡ false → Stays t (with_entry t class k o)
stays_with t class k o b = record { entry = each; long = λ class'. long_with t class class' k o }
  where
    each : (class' : Bool) (k' : ℕ) (e : Entry) → slice_get (list_of t class') k' ≡ Some (Some e) → slice_get (list_of (with_entry t class k o) class') k' ≡ Some (Some e)
    each class' k' e q = ⊎_elim
        (λ (s : (class ≡ class') × (k' ≡ k)).
        let q' : slice_get (list_of t class) k ≡ Some (Some e) = ap (λ c. slice_get (list_of t c) k) s.0 ∙ (ap (λ i. slice_get (list_of t class') i) (sym s.1) ∙ q) in
        let yes' = laid_some (slice_get (list_of t class) k) e q' in
        absurd (cc))
        (λ (s : class ≡ class' → k' ≢ k). with_other t class class' k k' o s ∙ q)
        (same_place class class' k k')

pub stays_same : (t : Tables) → Stays t t
stays_same t = record { entry = λ class k e q. q; long = λ class. refl }

pub stays_next : (a b c : Tables) → Stays a b → Stays b c → Stays a c
stays_next a b c x y = record { entry = λ class k e q. y.entry class k e (x.entry class k e q); long = λ class. y.long class ∙ x.long class }

pub has_stays : (a b : Tables) (class : Bool) (k : ℕ) → Stays a b → Has a class k → Has b class k
has_stays a b class k s h = (h.0, s.entry class k h.0 h.1)

pub reach_stays : (p : Program) (n : ℕ) (a b : Tables) → Stays a b → Reach p n a → Reach p n b
reach_stays p n a b s r = record { entry = λ class k sh h u. has_stays a b class k s (r.entry class k sh h u) }

-- what is there is laid out
pub has_laid_out : (t : Tables) (class : Bool) (k : ℕ) → is_laid_out (slice_get (list_of t class) k) ≡ true → Has t class k
has_laid_out t class k h = go (slice_get (list_of t class) k) refl h
  where
    go : (x : Option (Option Entry)) → slice_get (list_of t class) k ≡ x → is_laid_out x ≡ true → Has t class k
    go None q h = cc
    go (Some None) q h = cc
    go (Some (Some e)) q h = (e, q)

some_of : (o : Option Entry) → IsSome o → (e : Entry) × (o ≡ Some e)
some_of None h = cc
some_of (Some e) h = (e, refl)

pub has_with : (p : Program) (t : Tables) (class : Bool) (k n : ℕ) (sh : Shape) (o : Option Entry) → k < length (list_of t class) → Reach p n t → shape_within p (suc n) (named class k) ≡ Some sh → IsSmall sh
    → ((m : ℕ) (fs : Fields) → Reach p m t → fields_by (shape_within p m) (members p class k) ≡ Some fs → EachIsSmall fs → ending (start class) fs + gap (wide class fs) (ending (start class) fs) < 4294967296 → IsSome o)
    → Has (with_entry t class k o) class k
has_with p t class k n sh o w r h s g =
    let x = opens p (suc n) class k sh h in
    let m = made_of class sh x.fields x.made in
    let small = m.small s in
    let d = x.deep in
    let deep : n ≡ x.depth = omega arith in
    let lt : ending (start class) x.fields + gap (wide class x.fields) (ending (start class) x.fields) < 4294967296 = subst (λ i. i < 4294967296) m.size-is small.0 in
    let is = some_of o (g x.depth x.fields (subst (λ i. Reach p i t) deep r) x.unfolds small.1 lt) in
    let there = some_there t class k w in
    (is.0, ap (λ l. slice_get l k) (with_same t class k o) ∙ (get_set_same (list_of t class) k o there.0 there.1 ∙ ap Some is.1))

-- ---- empty tables

pub none_first : (all : List (Option Entry)) → all ≡ [] → (k : ℕ) (e : Entry) → slice_get all k ≢ Some (Some e)
none_first all h k e q = let z : None ≡ Some (Some e) = sym (ap (λ l. slice_get l k) h) ∙ q in cc

pub none_more : (all : List (Option Entry)) → ((k : ℕ) (e : Entry) → slice_get all k ≢ Some (Some e)) → (k : ℕ) (e : Entry) → slice_get (all ++ None ∷ []) k ≢ Some (Some e)
none_more [] h zero e q = cc
none_more [] h (suc k) e q = cc
none_more (x ∷ xs) h zero e q = h zero e q
none_more (x ∷ xs) h (suc k) e q = none_more xs (λ j f. h (suc j) f) k e q

pub tables_none : (p : Program) (t : Tables) → ((k : ℕ) (e : Entry) → slice_get t.structures k ≢ Some (Some e)) → ((k : ℕ) (e : Entry) → slice_get t.classes k ≢ Some (Some e)) → AreTables p t
tables_none p t a b = record { entry = each }
  where
    each : (class : Bool) (k : ℕ) (e : Entry) (n : ℕ) (sh : Shape) → slice_get (list_of t class) k ≡ Some (Some e) → shape_within p n (named class k) ≡ Some sh → LaysOut class e sh
    each true k e n sh q h = absurd (b k e q)
    each false k e n sh q h = absurd (a k e q)

-- nothing unfolds at once that has fields
pub reach_none : (p : Program) (t : Tables) → Reach p 0 t
reach_none p t = record {
  entry = λ class k sh h s.
      let o = opens p 0 class k sh h in
      let d = o.deep in
      absurd (omega (arith, d));
}

-- ---- the variables of the k-th

pub variables_are : (lists : List (List held.Variable)) (k : ℕ) (item s : List held.Variable) (vs : List Variable) → slice_get lists k ≡ Some item → s ≡ item → list_at lists k ≡ vs → variables_of s ≡ vs
variables_are lists k item s vs e q h = ap variables_of q ∙ (sym (ap (λ o. variables_of (items_at o)) e) ∙ h)

-- what has a shape is among them
pub are_variables : (p : Program) (m : code.Members) → Holds p m → AreVariables p false m.structures × AreVariables p true m.classes
are_variables p m h = (
  record { each = h.structures; all = λ k n sh u. let a = h.all_structures in let b = type_known p n k sh u in omega (arith, a, b) },
  record { each = h.classes; all = λ k n sh u. let a = h.all_classes in let b = class_known p n k sh u in omega (arith, a, b) },
)

-- ---- rounds

-- of the first so many
pub record Filled (p : Program) (class : Bool) (old new : Tables) (n : ℕ) : Type 0 where
  pub done : (m k : ℕ) (sh : Shape) → k < n → AreTables p old → Reach p m old → shape_within p (suc m) (named class k) ≡ Some sh → IsSmall sh → Has new class k

pub has_one_more : (class : Bool) (k n : ℕ) (now new : Tables) → k < n + 1 → Stays now new → (k < n → Has now class k) → (k ≡ n → Has new class k) → Has new class k
has_one_more class k n now new lt s f g = elim (cases_lt k n) [ inl below ↦ has_stays now new class k s (f below) | inr above ↦ (let same : k ≡ n = omega (arith, lt, above) in g same) ]

pub reach_next : (p : Program) (n : ℕ) (a b c : Tables) → Stays b c → ((k : ℕ) (sh : Shape) → shape_within p (suc n) (named false k) ≡ Some sh → IsSmall sh → Has b false k) → ((k : ℕ) (sh : Shape) → shape_within p (suc n) (named true k) ≡ Some sh → IsSmall sh → Has c true k) → Reach p (suc n) c
reach_next p n a b c s f g = record { entry = each }
  where
    each : (class : Bool) (k : ℕ) (sh : Shape) → shape_within p (suc n) (named class k) ≡ Some sh → IsSmall sh → Has c class k
    each true k sh h u = g k sh h u
    each false k sh h u = has_stays b c false k s (f k sh h u)
