-- Chains that end at a top: they do not come round, and each is its first and the chain of its base.
use Rattle.std.proofs.Common.{◌≡◌, ℕ, zero, suc, Bool, true, false, List, [], ◌∷◌, Option, Some, None, length, get_or, refl, sym, ap, arith, ◌∙◌, ◌⊎◌, inl, inr, subst}
use Rattle.std.specs.Prelude.{if◌then◌else◌, is_some, not}
use Rattle.std.specs.Option.{is_none}
use Rattle.st_rules.specs.Chains.{is_among, climb, IsAbove, directly, further}
use Rattle.st_rules.proofs.Booleans.{cases, none≢some, some-same, true≢false, false≢true, same-tests}
use Rattle.st_rules.proofs.ChainLaws.{IsWithin, chain_holds, chain-base, chain-top, above_through}
use Rattle.class_tables.specs.Slots.{ends_at_top}

-- going up from one comes to a top
pub data Ends (above : ℕ → Option ℕ) : ℕ → Type 0 where
  top : (c : ℕ) → above c ≡ None → Ends above c
  under : (c b : ℕ) → above c ≡ Some b → Ends above b → Ends above c

pub none-is : (o : Option ℕ) (r : Bool) → is_some o ≡ not r → r ≡ is_none o
none-is None true h = refl
none-is None false h = absurd (false≢true h)
none-is (Some x) true h = absurd (true≢false h)
none-is (Some x) false h = refl

pub ends-last : (above : ℕ → Option ℕ) (cs : List ℕ) (k : ℕ) → length cs ≡ suc k → ends_at_top above cs ≡ is_none (above (get_or cs k 0))
ends-last above [] k l = absurd (omega arith)
ends-last above (c ∷ []) zero l = refl
ends-last above (c ∷ []) (suc k) l = absurd (omega arith)
ends-last above (c ∷ d ∷ cs) zero l = absurd (omega arith)
ends-last above (c ∷ d ∷ cs) (suc k) l = ends-last above (d ∷ cs) k (omega arith)

module _ (above : ℕ → Option ℕ) where
  -- what climbing goes on with
  abbrev Climbed : ℕ → Type 0
  Climbed k = (held : List ℕ) (c : ℕ) → is_among c held ≡ false → ends_at_top above (climb above (suc k) held (Some c)) ≡ true → Ends above c

  is_top : (o : Option ℕ) → is_none o ≡ true → o ≡ None
  is_top None h = refl
  is_top (Some x) h = absurd (true≢false (sym h))

  one_ends : (c : ℕ) → ends_at_top above (c ∷ []) ≡ true → Ends above c
  one_ends c h = top c (is_top (above c) h)

  climbed_on : (k c : ℕ) (held : List ℕ) (o : Option ℕ) → above c ≡ o → Climbed k → ends_at_top above (c ∷ climb above (suc k) (c ∷ held) o) ≡ true → Ends above c
  climbed_on k c held None e f h = top c e
  climbed_on k c held (Some b) e f h = at (cases (is_among b (c ∷ held)))
    where
      at : (is_among b (c ∷ held) ≡ true) ⊎ (is_among b (c ∷ held) ≡ false) → Ends above c
      at (inl p) = one_ends c (sym (ap (λ (x : Bool). ends_at_top above (c ∷ (if x then [] else b ∷ climb above k (b ∷ (c ∷ held)) (above b)))) p) ∙ h)
      at (inr p) = under c b e (f (c ∷ held) b p (ap (λ (x : Bool). ends_at_top above (if x then [] else b ∷ climb above k (b ∷ (c ∷ held)) (above b))) p ∙ sym (ap (λ (x : Bool). ends_at_top above (c ∷ (if x then [] else b ∷ climb above k (b ∷ (c ∷ held)) (above b)))) p) ∙ h))

  first_step : (k c : ℕ) (held : List ℕ) → is_among c held ≡ false → climb above (suc k) held (Some c) ≡ c ∷ climb above k (c ∷ held) (above c)
  first_step k c held e = ap (λ x. if x then [] else c ∷ climb above k (c ∷ held) (above c)) e

  climbed : (k : ℕ) → Climbed k
  climbed zero held c e h = one_ends c (sym (ap (ends_at_top above) (first_step 0 c held e)) ∙ h)
  climbed (suc k) held c e h = climbed_on k c held (above c) refl (climbed k) (sym (ap (ends_at_top above) (first_step (suc k) c held e)) ∙ h)

  module _ (n : ℕ) (w : IsWithin above n) where
    -- one from which going up comes to a top does not stand above itself
    no_round : (c : ℕ) → Ends above c → IsAbove above c c → ⊥
    no_round _ (top c e) (directly _ b f) = none≢some (sym e ∙ f)
    no_round _ (top c e) (further _ b d f r) = none≢some (sym e ∙ f)
    no_round _ (under c b e r) (directly _ x f) = let q : x ≡ b = some-same (sym f ∙ e) in no_round b r (directly b b (ap above (sym q) ∙ e))
    no_round _ (under c b e r) (further _ x d f p) = let q : x ≡ b = some-same (sym f ∙ e) in no_round b r (above_through above n w b c b (directly c b e) (subst (λ (y : ℕ). IsAbove above c y) q p))

    abbrev chain_of : ℕ → List ℕ
    chain_of c = climb above (suc n) [] (Some c)

    not_in : (c b : ℕ) → above c ≡ Some b → Ends above b → is_among c (chain_of b) ≡ false
    not_in c b e r = at (cases (is_among c (chain_of b)))
      where
        round : (c ≡ b) ⊎ IsAbove above c b → ⊥
        round (inl p) = no_round b r (directly b b (ap above (sym p) ∙ e))
        round (inr p) = no_round b r (above_through above n w b c b (directly c b e) p)

        at : (is_among c (chain_of b) ≡ true) ⊎ (is_among c (chain_of b) ≡ false) → is_among c (chain_of b) ≡ false
        at (inl p) = absurd (round ((chain_holds above n w b c).0 p))
        at (inr p) = p

    pub chain_under : (c b : ℕ) → above c ≡ Some b → ends_at_top above (chain_of b) ≡ true → chain_of c ≡ c ∷ chain_of b
    chain_under c b e h = chain-base above n w c b e (not_in c b e (climbed n [] b refl h))

    ends_of : (c : ℕ) → Ends above c → ends_at_top above (chain_of c) ≡ true
    ends_of _ (top c e) = ap (ends_at_top above) (chain-top above n w c e) ∙ ap is_none e
    ends_of _ (under c b e r) = ap (ends_at_top above) (chain-base above n w c b e (not_in c b e r)) ∙ ends_of b r

    -- a chain ends at a top where that of the base does
    pub ends-base : (c b : ℕ) → above c ≡ Some b → ends_at_top above (chain_of b) ≡ ends_at_top above (chain_of c)
    ends-base c b e = same-tests _ _ (λ h. ends_of c (under c b e (climbed n [] b refl h))) (λ h. ends_of b (base_ends (climbed n [] c refl h)))
      where
        base_ends : Ends above c → Ends above b
        base_ends (top _ f) = absurd (none≢some (sym f ∙ e))
        base_ends (under _ x f r) = subst (Ends above) (some-same (sym f ∙ e)) r
