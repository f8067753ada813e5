-- What is told of no constant anew.
use Rattle.std.proofs.Common.{◌≡◌, ℕ, zero, suc, ◌+◌, ◌<◌, ◌≤◌, Bool, true, false, ◌&&◌, List, [], ◌∷◌, length, get_or, Some, refl, sym, ap, ◌∙◌, subst, arith, ◌⊎◌, inl, inr}
use Rattle.std.specs.Prelude.{not, slice_get}
use Rattle.std.proofs.lemmas.Option.{slice_get_within, slice_get-get_or}
use Rattle.st_rules.specs.declared.names.DeclaredVariable.{DeclaredVariable}
use Rattle.st_unit_rules.specs.declared_names.Constants.{is_told}
use Rattle.resolution_order.specs.told_laws.ToldLaws.{Each}
use Rattle.resolution_order.specs.told_laws.TellingLaws.{NoValueLeft}
use Rattle.type_resolution.specs.told_locals.Private.Telling.{is_left}

clash : true ≡ false → ⊥
clash e = absurd cc

not_left : (v w : DeclaredVariable) → is_left v w ≡ false → NoValueLeft v w
not_left v w e = by w.constant (is_told w.target) (is_told v.target) e
  where
    by : (a b c : Bool) → (a && b && not c) ≡ false → a ≡ true → b ≡ true → c ≡ true
    by true true true e h k = refl
    by true true false e h k = absurd (clash e)
    by true false c e h k = absurd (clash (sym k))
    by false b c e h k = absurd (clash (sym h))

each-at : (vs ws : List DeclaredVariable) → length vs ≡ length ws → ((p : ℕ) (v w : DeclaredVariable) → slice_get vs p ≡ Some v → slice_get ws p ≡ Some w → NoValueLeft v w) → Each NoValueLeft vs ws
each-at [] [] e f = tt
each-at (v ∷ vs) (w ∷ ws) e f = (f zero v w refl refl, each-at vs ws (less e) (λ p x y g h. f (suc p) x y g h))
  where
    less : suc (length vs) ≡ suc (length ws) → length vs ≡ length ws
    less h = omega (arith, h)
each-at [] (w ∷ ws) e f = absurd (no e)
  where
    no : zero ≡ suc (length ws) → ⊥
    no h = omega (arith, h)
each-at (v ∷ vs) [] e f = absurd (no e)
  where
    no : suc (length vs) ≡ zero → ⊥
    no h = omega (arith, h)

pub record LeftTo (vs ws : List DeclaredVariable) (i : ℕ) : Type 0 where
  pub each : (p : ℕ) (v w : DeclaredVariable) → p < i → slice_get vs p ≡ Some v → slice_get ws p ≡ Some w → NoValueLeft v w

pub left_begun : (vs ws : List DeclaredVariable) → LeftTo vs ws 0
left_begun vs ws = record { each = λ p v w l e f. absurd (omega arith) }

earlier_or_last : (i n : ℕ) → i < n + 1 → (i < n) ⊎ (i ≡ n)
earlier_or_last zero zero l = inr refl
earlier_or_last zero (suc n) l = inl (omega arith)
earlier_or_last (suc i) zero l = absurd (omega arith)
earlier_or_last (suc i) (suc n) l = elim (earlier_or_last i n (omega arith)) [ inl p ↦ inl (omega arith) | inr p ↦ inr (ap (λ m. suc m) p) ]

some-same : {X : Type 0} {x y : X} → Some x ≡ Some y → x ≡ y
some-same h = cc

there : (xs : List DeclaredVariable) (i : ℕ) (x y : DeclaredVariable) → i < length xs → x ≡ get_or xs i x → slice_get xs i ≡ Some y → x ≡ y
there xs i x y l e h = some-same (sym (slice_get-get_or xs i x l ∙ ap Some (sym e)) ∙ h)

pub left_next : (vs ws : List DeclaredVariable) (i : ℕ) (v w : DeclaredVariable) → i < length vs → v ≡ get_or vs i v → i < length ws → w ≡ get_or ws i w → is_left v w ≡ false → LeftTo vs ws i → LeftTo vs ws (i + 1)
left_next vs ws i v w l e m f k s = record { each = λ p x y q g h. at p x y g h (earlier_or_last p i q) }
  where
    at : (p : ℕ) (x y : DeclaredVariable) → slice_get vs p ≡ Some x → slice_get ws p ≡ Some y → (p < i) ⊎ (p ≡ i) → NoValueLeft x y
    at p x y g h (inl q) = s.each p x y q g h
    at p x y g h (inr q) =
        let a : v ≡ x = there vs i v x l e (ap (slice_get vs) (sym q) ∙ g) in
        let b : w ≡ y = there ws i w y m f (ap (slice_get ws) (sym q) ∙ h) in
        subst (λ z. NoValueLeft x z) b (subst (λ z. NoValueLeft z w) a (not_left v w k))

pub left_ended : (vs ws : List DeclaredVariable) (i : ℕ) → length vs ≡ length ws → length vs ≤ i → LeftTo vs ws i → Each NoValueLeft vs ws
left_ended vs ws i e l s = each-at vs ws e (λ p v w g h. let q = slice_get_within vs p v g in s.each p v w (omega (arith, q, l)) g h)
