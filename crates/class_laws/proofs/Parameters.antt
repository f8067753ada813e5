-- Parameters as they are seen: no two of a routine are one local or variable, and each of a function or method is the local of its number.
use Rattle.std.proofs.Common.{◌≡◌, ◌≤◌, ℕ, zero, suc, ◌+◌, List, [], ◌∷◌, ◌++◌, Some, refl, sym, ap, ◌∙◌, subst, arith}
use Rattle.std.specs.Prelude.{slice_get}
use Rattle.st_tree.specs.declared.declaration.SectionSort.{SectionSort}
use Rattle.st_tree.specs.declared.declaration.SectionSort.TheVariants as sort
use Rattle.st_rules.proofs.Booleans.{some-same}
use Rattle.st_values.specs.Program.{Variable, Recipient, to_local, to_variable, Parameter}
use Rattle.st_values.specs.View.{local_parameters, body_parameters}
use Rattle.st_meaning.specs.Call.{number_to}
use Rattle.st_meaning.specs.st_frame.Promise.Declarations.{AreApart}

-- ---- of functions and methods

abbrev pub as_local : Variable → ℕ → Parameter
as_local v n = record { sort = v.sort; to = to_local n }

pub local_at : (n : ℕ) (vs : List Variable) (i : ℕ) (q : Parameter) → slice_get (local_parameters n vs) i ≡ Some q → (v : Variable) × (slice_get vs i ≡ Some v) × (q ≡ as_local v (n + i))
local_at n [] i q e = cc
local_at n (v ∷ vs) zero q e = let z : n ≡ n + 0 = omega arith in (v, refl, sym (some-same e) ∙ ap (as_local v) z)
local_at n (v ∷ vs) (suc i) q e =
    let r = local_at (suc n) vs i q e in
    let z : suc n + i ≡ n + suc i = omega arith in
    (r.0, r.1, r.2 ∙ ap (as_local r.0) z)

pub locals_apart : (n : ℕ) (vs : List Variable) → AreApart (local_parameters n vs)
locals_apart n vs = record {
  by = λ i j q r e f h.
      let x = local_at n vs i q e in
      let y = local_at n vs j r f in
      let z : n + i ≡ n + j = ap number_to (sym (ap (λ (a : Parameter). a.to) x.2) ∙ (h ∙ ap (λ (a : Parameter). a.to) y.2)) in
      omega (arith, z);
}

-- ---- of bodies: variables from one number on, and locals from another

abbrev IsFrom : ℕ → ℕ → Recipient → Type 0
IsFrom k l (to_variable m) = k ≤ m
IsFrom k l (to_local m) = l ≤ m

lower : (k i l j : ℕ) (to : Recipient) → k ≤ i → l ≤ j → IsFrom i j to → IsFrom k l to
lower k i l j (to_variable m) a b h = omega (arith, a, h)
lower k i l j (to_local m) a b h = omega (arith, b, h)

up : (k : ℕ) → k ≤ suc k
up k = omega arith

same : (k : ℕ) → k ≤ k
same k = omega arith

no_less : (k : ℕ) → suc k ≤ k → ⊥
no_less k h = omega (arith, h)

abbrev AllFrom : List Variable → Type 0
AllFrom vs = (k l j : ℕ) (r : Parameter) → slice_get (body_parameters k l vs) j ≡ Some r → IsFrom k l r.to

-- by the sort of the first variable
from_next : (x : SectionSort) (v : Variable) (vs : List Variable) → AllFrom vs → (k l j : ℕ) (r : Parameter) → slice_get (body_parameters k l (record v { sort = x } ∷ vs)) j ≡ Some r → IsFrom k l r.to
from_next sort.Input v vs rest k l zero r e = subst (λ (q : Parameter). IsFrom k l q.to) (some-same e) (same k)
from_next sort.Input v vs rest k l (suc j) r e = lower k (suc k) l l r.to (up k) (same l) (rest (suc k) l j r e)
from_next sort.Output v vs rest k l zero r e = subst (λ (q : Parameter). IsFrom k l q.to) (some-same e) (same k)
from_next sort.Output v vs rest k l (suc j) r e = lower k (suc k) l l r.to (up k) (same l) (rest (suc k) l j r e)
from_next sort.InOut v vs rest k l zero r e = subst (λ (q : Parameter). IsFrom k l q.to) (some-same e) (same l)
from_next sort.InOut v vs rest k l (suc j) r e = lower k k l (suc l) r.to (same k) (up l) (rest k (suc l) j r e)
from_next sort.Temp v vs rest k l j r e = lower k k l (suc l) r.to (same k) (up l) (rest k (suc l) j r e)
from_next _ v vs rest k l j r e = lower k (suc k) l l r.to (up k) (same l) (rest (suc k) l j r e)

all_from : (vs : List Variable) → AllFrom vs
all_from [] k l j r e = cc
all_from (v ∷ vs) k l j r e = from_next v.sort v vs (all_from vs) k l j r e

one_more : (q : Parameter) (qs : List Parameter) → ((j : ℕ) (r : Parameter) → slice_get qs j ≡ Some r → q.to ≡ r.to → ⊥) → AreApart qs → AreApart (q ∷ qs)
one_more q qs h k = record { by = by }
  where
    by : (i j : ℕ) (x y : Parameter) → slice_get (q ∷ qs) i ≡ Some x → slice_get (q ∷ qs) j ≡ Some y → x.to ≡ y.to → i ≡ j
    by zero zero x y e f g = refl
    by zero (suc j) x y e f g = absurd (h j y f (ap (λ (z : Parameter). z.to) (some-same e) ∙ g))
    by (suc i) zero x y e f g = absurd (h i x e (ap (λ (z : Parameter). z.to) (some-same f) ∙ sym g))
    by (suc i) (suc j) x y e f g = ap suc (k.by i j x y e f g)

abbrev Apart : List Variable → Type 0
Apart vs = (k l : ℕ) → AreApart (body_parameters k l vs)

apart_next : (x : SectionSort) (v : Variable) (vs : List Variable) → Apart vs → (k l : ℕ) → AreApart (body_parameters k l (record v { sort = x } ∷ vs))
apart_next sort.Input v vs rest k l = one_more _ _ (λ j r e h. no_less k (subst (IsFrom (suc k) l) (sym h) (all_from vs (suc k) l j r e))) (rest (suc k) l)
apart_next sort.Output v vs rest k l = one_more _ _ (λ j r e h. no_less k (subst (IsFrom (suc k) l) (sym h) (all_from vs (suc k) l j r e))) (rest (suc k) l)
apart_next sort.InOut v vs rest k l = one_more _ _ (λ j r e h. no_less l (subst (IsFrom k (suc l)) (sym h) (all_from vs k (suc l) j r e))) (rest k (suc l))
apart_next sort.Temp v vs rest k l = rest k (suc l)
apart_next _ v vs rest k l = rest (suc k) l

pub bodies_apart : (vs : List Variable) → Apart vs
bodies_apart [] k l = record { by = λ i j q r e f h. cc }
bodies_apart (v ∷ vs) k l = apart_next v.sort v vs (bodies_apart vs) k l

-- ---- more variables behind give more parameters behind

abbrev Begins : List Variable → List Variable → ℕ → ℕ → Type 0
Begins vs ws k l = (rest : List Parameter) × (body_parameters k l (vs ++ ws) ≡ body_parameters k l vs ++ rest)

begin_next : (x : SectionSort) (v : Variable) (vs ws : List Variable) → ((k l : ℕ) → Begins vs ws k l) → (k l : ℕ) → Begins (record v { sort = x } ∷ vs) ws k l
begin_next sort.Input v vs ws h k l = let r = h (suc k) l in (r.0, ap (λ qs. record { sort = sort.Input; to = to_variable k } ∷ qs) r.1)
begin_next sort.Output v vs ws h k l = let r = h (suc k) l in (r.0, ap (λ qs. record { sort = sort.Output; to = to_variable k } ∷ qs) r.1)
begin_next sort.InOut v vs ws h k l = let r = h k (suc l) in (r.0, ap (λ qs. record { sort = sort.InOut; to = to_local l } ∷ qs) r.1)
begin_next sort.Temp v vs ws h k l = h k (suc l)
begin_next _ v vs ws h k l = h (suc k) l

pub bodies_begin : (vs ws : List Variable) (k l : ℕ) → Begins vs ws k l
bodies_begin [] ws k l = (body_parameters k l ws, refl)
bodies_begin (v ∷ vs) ws k l = begin_next v.sort v vs ws (bodies_begin vs ws) k l
