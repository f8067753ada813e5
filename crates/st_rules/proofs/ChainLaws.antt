-- Chains: a chain holds all that stands above, its bound cuts nothing, and a search along it goes from base to base.
use Rattle.std.proofs.Common.{◌≡◌, ℕ, zero, suc, ◌+◌, ◌<◌, ◌≤◌, Bool, true, false, List, [], ◌∷◌, ◌++◌, Option, Some, None, refl, sym, ap, ◌∙◌, arith, length, ◌⊎◌, inl, inr, nat_eq, subst}
use Rattle.std.specs.Prelude.{◌||◌, option_and_then, if◌then◌else◌}
use Rattle.std.specs.Bool.{Decides, then_some}
use Rattle.std.specs.List.{list_any}
use Rattle.std.specs.Option.{is_some}
use Rattle.std.proofs.lemmas.Bool.{eqb-true, eq-eqb}
use Rattle.st_rules.specs.Numbered.{passes_if_there}
use Rattle.st_rules.specs.Chains.{is_among, ◌or_else◌, nearest, climb, IsAbove, directly, further}
use Rattle.st_rules.specs.Upward.{upward}
use Rattle.st_rules.proofs.UpwardLaws.{upward_is}
use Rattle.st_rules.proofs.Booleans.{true≢false, some-same, cases, either, neither, or-first, or-second, or-neither}
use Rattle.st_rules.proofs.Numbers.{Held, none_held, held_more, all_held}

-- what stands above is one of n, and so is what it stands above of
pub record IsWithin (above : ℕ → Option ℕ) (n : ℕ) : Type 0 where
  pub within : (c b : ℕ) → above c ≡ Some b → (c < n) × (b < n)

module _ (above : ℕ → Option ℕ) where
  module _ (n : ℕ) (w : IsWithin above n) where
    enough_at : (k : ℕ) (held : List ℕ) (c : ℕ) → Held n held → n ≤ length held + suc k → c < n → (b : Bool) → is_among c held ≡ b →
        (is_among c held ≡ false → climb above (suc k) (c ∷ held) (above c) ≡ climb above k (c ∷ held) (above c)) →
        ◌≡◌ {A = List ℕ} (if b then [] else c ∷ climb above (suc k) (c ∷ held) (above c)) (if b then [] else c ∷ climb above k (c ∷ held) (above c))
    enough_at k held c h l i true e f = refl
    enough_at k held c h l i false e f = ap (λ cs. c ∷ cs) (f e)

    last_at : (held : List ℕ) (c : ℕ) (b : Bool) → is_among c held ≡ true → is_among c held ≡ b → ◌≡◌ {A = List ℕ} (if b then [] else c ∷ []) []
    last_at held c true e f = refl
    last_at held c false e f = absurd (true≢false (sym e ∙ f))

    abbrev Below : Option ℕ → Type 0
    Below o = (c : ℕ) → o ≡ Some c → c < n

    above_below : (c : ℕ) → Below (above c)
    above_below c b e = (w.within c b e).1

    -- as many steps as there are numbers that are not held are enough
    enough : (k : ℕ) (held : List ℕ) (o : Option ℕ) → Held n held → n ≤ length held + k → Below o → climb above (suc k) held o ≡ climb above k held o
    enough zero held None h l i = refl
    enough zero held (Some c) h l i =
        let full : n ≤ length held = omega arith in
        last_at held c (is_among c held) (all_held n held h full c (i c refl)) refl
    enough (suc k) held None h l i = refl
    enough (suc k) held (Some c) h l i =
        let more : n ≤ length (c ∷ held) + k = omega arith in
        enough_at k held c h l (i c refl) (is_among c held) refl (λ e. enough k (c ∷ held) (above c) (held_more n held c h (i c refl) e) more (above_below c))

    pub chain_enough : (b : ℕ) → b < n → climb above (suc n) [] (Some b) ≡ climb above n [] (Some b)
    chain_enough b h = let l : n ≤ length {A = ℕ} [] + n = omega arith in enough n [] (Some b) (none_held n) l (λ c e. subst (λ (x : ℕ). x < n) (some-same e) h)

    module _ {X : Type 0} (has : ℕ → Option X) where
      from_base : (c : ℕ) (o : Option ℕ) → above c ≡ o → option_and_then (upward has above n) o ≡ option_and_then (λ b. nearest has (climb above (suc n) [] (Some b))) o
      from_base c None e = refl
      from_base c (Some b) e = upward_is has above n b ∙ sym (ap (nearest has) (chain_enough b (w.within c b e).1))

      -- what is nearest in a chain: of the first, or else what is nearest in the chain of its base
      pub nearest-chain : (c : ℕ) → nearest has (climb above (suc n) [] (Some c)) ≡ (has c or_else option_and_then (λ b. nearest has (climb above (suc n) [] (Some b))) (above c))
      nearest-chain c = sym (upward_is has above (suc n) c) ∙ ap (λ o. has c or_else o) (from_base c (above c) refl)

    module _ (test : ℕ → Bool) where
      abbrev passing : ℕ → Option (Unit {0})
      passing x = then_some (test x) tt

      is_some-or : (b : Bool) (o : Option (Unit {0})) → is_some (then_some b tt or_else o) ≡ (b || is_some o)
      is_some-or true o = refl
      is_some-or false o = refl

      any-nearest : (cs : List ℕ) → list_any test cs ≡ is_some (nearest passing cs)
      any-nearest [] = refl
      any-nearest (c ∷ cs) = ap (λ b. test c || b) (any-nearest cs) ∙ sym (is_some-or (test c) (nearest passing cs))

      from_base_any : (o : Option ℕ) → is_some (option_and_then (λ b. nearest passing (climb above (suc n) [] (Some b))) o) ≡ passes_if_there (λ b. list_any test (climb above (suc n) [] (Some b))) o
      from_base_any None = refl
      from_base_any (Some b) = sym (any-nearest (climb above (suc n) [] (Some b)))

      -- a test passes in a chain where it passes at the first or in the chain of its base
      pub any-chain : (c : ℕ) → list_any test (climb above (suc n) [] (Some c)) ≡ (test c || passes_if_there (λ b. list_any test (climb above (suc n) [] (Some b))) (above c))
      any-chain c =
          any-nearest (climb above (suc n) [] (Some c)) ∙ ap is_some (nearest-chain passing c)
          ∙ is_some-or (test c) _ ∙ ap (λ b. test c || b) (from_base_any (above c))

    climb-none : (k : ℕ) (held : List ℕ) → climb above k held None ≡ []
    climb-none zero held = refl
    climb-none (suc k) held = refl

    holds_above : (k c x : ℕ) (held : List ℕ) (o : Option ℕ) → above c ≡ o → ((b : ℕ) → is_among x (climb above k (c ∷ held) (Some b)) ≡ true → (x ≡ b) ⊎ IsAbove above x b) → is_among x (climb above k (c ∷ held) o) ≡ true → IsAbove above x c
    holds_above k c x held None e f h = absurd (true≢false (sym h ∙ ap (is_among x) (climb-none k (c ∷ held))))
    holds_above k c x held (Some b) e f h = elim (f b h) [
      | inl q ↦ subst (λ (y : ℕ). IsAbove above y c) (sym q) (directly c b e)
      | inr q ↦ further c b x e q
    ]

    holds_at : (k c x : ℕ) (held : List ℕ) (b : Bool) → ((o : Option ℕ) → above c ≡ o → is_among x (climb above k (c ∷ held) o) ≡ true → IsAbove above x c) →
        is_among x (if b then [] else c ∷ climb above k (c ∷ held) (above c)) ≡ true → (x ≡ c) ⊎ IsAbove above x c
    holds_at k c x held true f h = absurd (true≢false (sym h))
    holds_at k c x held false f h = elim (either (nat_eq x c) (is_among x (climb above k (c ∷ held) (above c))) h) [ inl q ↦ inl (eqb-true x c q) | inr q ↦ inr (f (above c) refl q) ]

    -- what a chain holds is its first, or stands above it
    holds : (k c x : ℕ) (held : List ℕ) → is_among x (climb above k held (Some c)) ≡ true → (x ≡ c) ⊎ IsAbove above x c
    holds zero c x held h = absurd (true≢false (sym h))
    holds (suc k) c x held h = holds_at k c x held (is_among c held) (λ o e i. holds_above k c x held o e (λ b j. holds k b x (c ∷ held) j) i) h

    abbrev chain_of : ℕ → List ℕ
    chain_of c = climb above (suc n) [] (Some c)

    first_held : (c : ℕ) → is_among c (chain_of c) ≡ true
    first_held c = or-first (nat_eq c c) _ (eq-eqb c c refl)

    above_held : (x c : ℕ) → IsAbove above x c → is_among x (chain_of c) ≡ true
    above_held x _ (directly c b e) =
        let above_it : passes_if_there (λ d. is_among b (chain_of d)) (above c) ≡ true = ap (passes_if_there (λ d. is_among b (chain_of d))) e ∙ first_held b in
        any-chain (nat_eq b) c ∙ or-second (nat_eq b c) _ above_it
    above_held x _ (further c b d e r) =
        let above_it : passes_if_there (λ y. is_among d (chain_of y)) (above c) ≡ true = ap (passes_if_there (λ y. is_among d (chain_of y))) e ∙ above_held d b r in
        any-chain (nat_eq d) c ∙ or-second (nat_eq d c) _ above_it

    -- a chain holds its first and all that stands above it, and nothing else
    pub chain_holds : (c x : ℕ) → Decides (is_among x (chain_of c)) ((x ≡ c) ⊎ IsAbove above x c)
    chain_holds c x = (holds (suc n) c x [], λ p. elim p [ inl q ↦ subst (λ (y : ℕ). is_among y (chain_of c) ≡ true) (sym q) (first_held c) | inr q ↦ above_held x c q ])

    pub above_through : (x y z : ℕ) → IsAbove above x y → IsAbove above y z → IsAbove above x z
    above_through x _ _ p (directly c b e) = further c b x e p
    above_through x _ _ p (further c b d e r) = further c b x e (above_through x d b p r)

    -- what stands in the chain of one in a chain stands in that chain
    pub chain_through : (c d x : ℕ) → is_among d (chain_of c) ≡ true → is_among x (chain_of d) ≡ true → is_among x (chain_of c) ≡ true
    chain_through c d x h k = elim ((chain_holds c d).0 h) [
      | inl p ↦ subst (λ (y : ℕ). is_among x (chain_of y) ≡ true) p k
      | inr p ↦ elim ((chain_holds d x).0 k) [
        | inl q ↦ (chain_holds c x).1 (inr (subst (λ (y : ℕ). IsAbove above y c) (sym q) p))
        | inr q ↦ (chain_holds c x).1 (inr (above_through x d c q p))
      ]
    ]

    -- ---- a chain that does not come back

    held-append : (x c : ℕ) (held : List ℕ) → is_among x (held ++ c ∷ []) ≡ (is_among x held || nat_eq x c)
    held-append x c [] = or-right (nat_eq x c)
      where
        or-right : (b : Bool) → (b || false) ≡ b
        or-right true = refl
        or-right false = refl
    held-append x c (y ∷ ys) = ap (λ b. nat_eq x y || b) (held-append x c ys) ∙ assoc (nat_eq x y) (is_among x ys) (nat_eq x c)
      where
        assoc : (a b d : Bool) → (a || (b || d)) ≡ ((a || b) || d)
        assoc true b d = refl
        assoc false b d = refl

    choose : (a b : Bool) (p q : List ℕ) → a ≡ b → (b ≡ false → p ≡ q) → ◌≡◌ {A = List ℕ} (if a then [] else p) (if b then [] else q)
    choose a true p q e f = ap (λ x. if x then [] else p) e
    choose a false p q e f = ap (λ x. if x then [] else p) e ∙ f refl

    turned : (x y : ℕ) → nat_eq x y ≡ false → nat_eq y x ≡ false
    turned x y h = elim (cases (nat_eq y x)) [ inl p ↦ absurd (true≢false (sym (eq-eqb x y (sym (eqb-true y x p))) ∙ h)) | inr p ↦ p ]

    unheld : (x c : ℕ) (held cs : List ℕ) (b : Bool) → is_among x held ≡ b → is_among c (if b then [] else x ∷ cs) ≡ false → is_among x (held ++ c ∷ []) ≡ b
    unheld x c held cs true e h = held-append x c held ∙ or-first (is_among x held) (nat_eq x c) e
    unheld x c held cs false e h = held-append x c held ∙ or-neither (is_among x held) (nat_eq x c) e (turned c x (neither (nat_eq c x) (is_among c cs) h).0)

    rest_without : (x c : ℕ) (cs : List ℕ) (b : Bool) → is_among c (if b then [] else x ∷ cs) ≡ false → b ≡ false → is_among c cs ≡ false
    rest_without x c cs true h e = absurd (true≢false e)
    rest_without x c cs false h e = (neither (nat_eq c x) (is_among c cs) h).1

    -- one that is not met may be held before
    avoids : (k c : ℕ) (held : List ℕ) (o : Option ℕ) → is_among c (climb above k held o) ≡ false → climb above k (held ++ c ∷ []) o ≡ climb above k held o
    avoids zero c held o h = refl
    avoids (suc k) c held None h = refl
    avoids (suc k) c held (Some x) h =
        choose (is_among x (held ++ c ∷ [])) (is_among x held) _ _
        (unheld x c held (climb above k (x ∷ held) (above x)) (is_among x held) refl h)
        (λ e. ap (λ cs. x ∷ cs) (avoids k c (x ∷ held) (above x) (rest_without x c (climb above k (x ∷ held) (above x)) (is_among x held) h e)))

    -- the chain of one that does not stand above its base is the one, and the chain of the base
    pub chain-base : (c b : ℕ) → above c ≡ Some b → is_among c (chain_of b) ≡ false → chain_of c ≡ c ∷ chain_of b
    chain-base c b e h =
        let enough_steps = chain_enough b (w.within c b e).1 in
        let free : is_among c (climb above n [] (Some b)) ≡ false = sym (ap (is_among c) enough_steps) ∙ h in
        ap (λ o. c ∷ climb above n (c ∷ []) o) e ∙ ap (λ cs. c ∷ cs) (avoids n c [] (Some b) free ∙ sym enough_steps)

    -- the chain of one with nothing above it is that one
    pub chain-top : (c : ℕ) → above c ≡ None → chain_of c ≡ c ∷ []
    chain-top c e = ap (λ o. c ∷ climb above n (c ∷ []) o) e ∙ ap (λ cs. c ∷ cs) (climb-none n (c ∷ []))
