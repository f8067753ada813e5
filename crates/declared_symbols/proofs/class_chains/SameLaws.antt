-- Lists without repetition that have the same numbers are the same in another order.
use Rattle.std.proofs.Common.{◌≡◌, ℕ, zero, suc, ◌+◌, Bool, true, false, List, [], ◌∷◌, Option, Some, None, refl, sym, ap, arith, ◌∙◌, inl, inr, nat_eq}
use Rattle.std.specs.Prelude.{if◌then◌else◌, ◌||◌, ◌&&◌, not}
use Rattle.std.specs.List.{list_any}
use Rattle.std.proofs.lemmas.Bool.{eqb-true, eq-eqb}
use Rattle.st_rules.specs.Chains.{is_among, climb}
use Rattle.st_rules.proofs.Booleans.{cases, or-first, or-second, true≢false}
use Rattle.declared_symbols.specs.class_chains.Cells.{total, SameClasses}

-- ---- no number twice

abbrev pub Distinct : List ℕ → Type 0
Distinct [] = Unit {0}
Distinct (x ∷ xs) = (is_among x xs ≡ false) × Distinct xs

module _ (above : ℕ → Option ℕ) where
  -- what is held is not climbed on
  apart : (k : ℕ) (held : List ℕ) (o : Option ℕ) (x : ℕ) → is_among x held ≡ true → is_among x (climb above k held o) ≡ false
  apart zero held o x h = refl
  apart (suc k) held None x h = refl
  apart (suc k) held (Some c) x h = at (is_among c held) refl (apart k (c ∷ held) (above c) x (or-second (nat_eq x c) (is_among x held) h))
    where
      other : is_among c held ≡ false → nat_eq x c ≡ false
      other e = elim (cases (nat_eq x c)) [ inl p ↦ absurd (true≢false (sym h ∙ ap (λ y. is_among y held) (eqb-true x c p) ∙ e)) | inr p ↦ p ]

      at : (b : Bool) → is_among c held ≡ b → is_among x (climb above k (c ∷ held) (above c)) ≡ false → is_among x (if b then [] else c ∷ climb above k (c ∷ held) (above c)) ≡ false
      at true e r = refl
      at false e r = ap (λ b. b || is_among x (climb above k (c ∷ held) (above c))) (other e) ∙ r

  pub climb_distinct : (k : ℕ) (held : List ℕ) (o : Option ℕ) → Distinct (climb above k held o)
  climb_distinct zero held o = tt
  climb_distinct (suc k) held None = tt
  climb_distinct (suc k) held (Some c) = at (is_among c held) (climb_distinct k (c ∷ held) (above c))
    where
      at : (b : Bool) → Distinct (climb above k (c ∷ held) (above c)) → Distinct (if b then [] else c ∷ climb above k (c ∷ held) (above c))
      at true d = tt
      at false d = (apart k (c ∷ held) (above c) c (or-first (nat_eq c c) (is_among c held) (eq-eqb c c refl)), d)

-- ---- one taken out

without : ℕ → List ℕ → List ℕ
without x [] = []
without x (y ∷ ys) = if nat_eq x y then ys else y ∷ without x ys

put_back : (x : ℕ) (ys : List ℕ) (f : ℕ → ℕ) → is_among x ys ≡ true → f x + total f (without x ys) ≡ total f ys
unfolding without
put_back x [] f h = absurd (true≢false (sym h))
put_back x (y ∷ ys) f h = at (nat_eq x y) refl (λ e. put_back x ys f (sym (ap (λ b. b || is_among x ys) e) ∙ h))
  where
    at : (b : Bool) → nat_eq x y ≡ b → (nat_eq x y ≡ false → f x + total f (without x ys) ≡ total f ys) → f x + total f (if b then ys else y ∷ without x ys) ≡ f y + total f ys
    at true e r = ap (λ z. f z + total f ys) (eqb-true x y e)
    at false e r =
        let t : f x + (f y + total f (without x ys)) ≡ f y + (f x + total f (without x ys)) = omega arith in
        t ∙ ap (λ n. f y + n) (r e)

or_turned : (a b c : Bool) → (a || (b || c)) ≡ (b || (a || c))
or_turned true true c = refl
or_turned true false c = refl
or_turned false b c = refl

put_back_any : (x : ℕ) (ys : List ℕ) (p : ℕ → Bool) → is_among x ys ≡ true → (p x || list_any p (without x ys)) ≡ list_any p ys
unfolding without
put_back_any x [] p h = absurd (true≢false (sym h))
put_back_any x (y ∷ ys) p h = at (nat_eq x y) refl (λ e. put_back_any x ys p (sym (ap (λ b. b || is_among x ys) e) ∙ h))
  where
    at : (b : Bool) → nat_eq x y ≡ b → (nat_eq x y ≡ false → (p x || list_any p (without x ys)) ≡ list_any p ys) → (p x || list_any p (if b then ys else y ∷ without x ys)) ≡ (p y || list_any p ys)
    at true e r = ap (λ z. p z || list_any p ys) (eqb-true x y e)
    at false e r = or_turned (p x) (p y) (list_any p (without x ys)) ∙ ap (λ b. p y || b) (r e)

and_true : (b : Bool) → (b && true) ≡ b
and_true true = refl
and_true false = refl

-- what is left are the others
left : (x z : ℕ) (ys : List ℕ) → Distinct ys → is_among z (without x ys) ≡ (is_among z ys && not (nat_eq z x))
unfolding without
left x z [] d = refl
left x z (y ∷ ys) d = at (nat_eq x y) refl (left x z ys d.1)
  where
    first : (b : Bool) → nat_eq z y ≡ b → x ≡ y → is_among z ys ≡ ((b || is_among z ys) && not b)
    first true e q = ap (λ w. is_among w ys) (eqb-true z y e) ∙ d.0
    first false e q = sym (and_true (is_among z ys))

    unlike : nat_eq x y ≡ false → nat_eq z y ≡ true → nat_eq z x ≡ false
    unlike e f = elim (cases (nat_eq z x)) [ inl p ↦ absurd (true≢false (sym (eq-eqb x y (sym (eqb-true z x p) ∙ eqb-true z y f)) ∙ e)) | inr p ↦ p ]

    later : (b : Bool) → nat_eq z y ≡ b → nat_eq x y ≡ false → (b || (is_among z ys && not (nat_eq z x))) ≡ ((b || is_among z ys) && not (nat_eq z x))
    later true f e = sym (ap not (unlike e f))
    later false f e = refl

    at : (b : Bool) → nat_eq x y ≡ b → is_among z (without x ys) ≡ (is_among z ys && not (nat_eq z x)) → is_among z (if b then ys else y ∷ without x ys) ≡ ((nat_eq z y || is_among z ys) && not (nat_eq z x))
    at true e r =
        let q = eqb-true x y e in
        first (nat_eq z y) refl q ∙ ap (λ w. (nat_eq z y || is_among z ys) && not (nat_eq z w)) (sym q)
    at false e r = ap (λ b. nat_eq z y || b) r ∙ later (nat_eq z y) refl e

stays_distinct : (x : ℕ) (ys : List ℕ) → Distinct ys → Distinct (without x ys)
unfolding without
stays_distinct x [] d = tt
stays_distinct x (y ∷ ys) d = at (nat_eq x y) (stays_distinct x ys d.1)
  where
    at : (b : Bool) → Distinct (without x ys) → Distinct (if b then ys else y ∷ without x ys)
    at true r = d.1
    at false r = (left x y ys d.1 ∙ ap (λ b. b && not (nat_eq y x)) d.0, r)

-- ---- the same numbers

pub same_classes : (xs ys : List ℕ) → Distinct xs → Distinct ys → ((x : ℕ) → is_among x xs ≡ is_among x ys) → SameClasses xs ys
same_classes [] [] d e h = record { totals = λ f. refl; any = λ p. refl }
same_classes [] (y ∷ ys) d e h = absurd (true≢false (sym (h y ∙ or-first (nat_eq y y) (is_among y ys) (eq-eqb y y refl))))
same_classes (x ∷ xs) ys d e h =
    let here : is_among x ys ≡ true = sym (h x) ∙ or-first (nat_eq x x) (is_among x xs) (eq-eqb x x refl) in
    let rest : SameClasses xs (without x ys) = same_classes xs (without x ys) d.1 (stays_distinct x ys e) (λ z. others z (nat_eq z x) refl ∙ sym (left x z ys e)) in
    record {
      totals = λ f. ap (λ n. f x + n) (rest.totals f) ∙ put_back x ys f here;
      any = λ p. ap (λ b. p x || b) (rest.any p) ∙ put_back_any x ys p here;
    }
  where
    others : (z : ℕ) (b : Bool) → nat_eq z x ≡ b → is_among z xs ≡ (is_among z ys && not b)
    others z true q = ap (λ w. is_among w xs) (eqb-true z x q) ∙ d.0 ∙ sym (no_and (is_among z ys))
      where
        no_and : (b : Bool) → (b && false) ≡ false
        no_and true = refl
        no_and false = refl
    others z false q = sym (ap (λ b. b || is_among z xs) q) ∙ h z ∙ sym (and_true (is_among z ys))
