-- Rounds over something of which less and less is untold come to rest: a round that leaves as much untold changes nothing one round later.
use Rattle.std.proofs.Common.{◌≡◌, ℕ, zero, suc, ◌<◌, ◌≤◌, sym, refl, ap, ◌∙◌, arith, ◌⊎◌, inl, inr}
use Rattle.std.proofs.Math.Nat.{eq-or-lt_of_le}

-- so many rounds on
unfoldable pub after : {A : Type 0} → (A → A) → ℕ → A → A
after round zero a = a
after round (suc m) a = round (after round m a)

module _
    {A : Type 0} (round : A → A) (Good : A → Type 0) (Less : A → A → Type 0) (untold : A → ℕ)
    (good : (a : A) → Good (round a))
    (next : (a b : A) → Good a → Less a b → Less (round a) (round b))
    (less : (a b : A) → Good a → Less a b → untold b ≤ untold a)
    (stays : (a b : A) → Good a → Less a b → untold a ≤ untold b → round a ≡ round b)
  where
    first-round : (m : ℕ) (a : A) → round (after round m a) ≡ after round m (round a)
    unfolding after
    first-round zero a = refl
    first-round (suc m) a = ap round (first-round m a)

    still : (m : ℕ) (a : A) → round a ≡ a → after round m a ≡ a
    unfolding after
    still zero a h = refl
    still (suc m) a h = ap round (still m a h) ∙ h

    -- where nothing is told anew
    at-rest : (m : ℕ) (a : A) → Good a → Less a (round a) → untold a ≤ untold (round a) → round (after round m (round a)) ≡ after round m (round a)
    at-rest m a k h e =
        let same : round (round a) ≡ round a = sym (stays a (round a) k h e) in
        let end : after round m (round a) ≡ round a = still m (round a) same in
        ap round end ∙ same ∙ sym end

    behind : (m : ℕ) (b : A) → round (after round m (round b)) ≡ after round m (round b) → round (after round (suc m) b) ≡ after round (suc m) b
    unfolding after
    behind m b h = ap round (first-round m b) ∙ h ∙ sym (first-round m b)

    pub settles : (m : ℕ) (a : A) → Good a → Less a (round a) → untold a ≤ m → round (after round m (round a)) ≡ after round m (round a)
    settles zero a k h e = at-rest zero a k h (omega arith)
    settles (suc m) a k h e = further (eq-or-lt_of_le (less a (round a) k h)) λ low. settles m (round a) (good a) (next a (round a) k h) low
      where
        further : (untold (round a) ≡ untold a) ⊎ (untold (round a) < untold a)
            → (untold (round a) ≤ m → round (after round m (round (round a))) ≡ after round m (round (round a)))
            → round (after round (suc m) (round a)) ≡ after round (suc m) (round a)
        further (inl p) f = at-rest (suc m) a k h (omega arith)
        further (inr p) f = behind m (round a) (f (omega arith))
