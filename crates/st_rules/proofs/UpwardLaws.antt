-- A search upward that stops by a count finds what the chain gives, which stops before a class that it holds.
use Rattle.std.proofs.Common.{◌≡◌, ◌<◌, ℕ, zero, suc, ◌-◌, nat_eq, Bool, true, false, List, [], ◌∷◌, Option, Some, None, refl, sym, ap, ◌∙◌, arith, ◌⊎◌, inl, inr}
use Rattle.std.specs.Prelude.{option_and_then, if◌then◌else◌, ◌||◌}
use Rattle.std.proofs.lemmas.Bool.{eqb-true, eq-eqb}
use Rattle.st_rules.specs.Chains.{is_among, ◌or_else◌, nearest, climb}
use Rattle.st_rules.specs.Upward.{upward}

module _ {X : Type 0} (has : ℕ → Option X) (above : ℕ → Option ℕ) where
  pub upward_next : (k c : ℕ) → 0 < k → upward has above k c ≡ (has c or_else option_and_then (upward has above (k - 1)) (above c))
  upward_next zero c h = absurd (omega arith)
  upward_next (suc k) c h =
      let e : suc k - 1 ≡ k = omega arith in
      ap (λ j. has c or_else option_and_then (upward has above j) (above c)) (sym e)

  -- none of these has one, and what stands above them is among them or the one at hand
  abbrev Passed : List ℕ → ℕ → Type 0
  Passed held c = (x : ℕ) → is_among x held ≡ true → (has x ≡ None) × ((y : ℕ) → above x ≡ Some y → is_among y (c ∷ held) ≡ true)

  -- within a circle nothing is found
  abbrev Closed : List ℕ → Type 0
  Closed held = (x : ℕ) → is_among x held ≡ true → (has x ≡ None) × ((y : ℕ) → above x ≡ Some y → is_among y held ≡ true)

  through : (b : Option ℕ) (k : ℕ) → ((y : ℕ) → b ≡ Some y → upward has above k y ≡ None) → option_and_then (upward has above k) b ≡ None
  through None k h = refl
  through (Some y) k h = h y refl

  round : (k c : ℕ) (held : List ℕ) → Closed held → is_among c held ≡ true → upward has above k c ≡ None
  round zero c held h i = refl
  round (suc k) c held h i = ap (λ o. o or_else option_and_then (upward has above k) (above c)) ((h c i).0) ∙ through (above c) k (λ y e. round k y held h ((h c i).1 y e))

  one_of : (a b : Bool) → (a || b) ≡ true → (a ≡ true) ⊎ (b ≡ true)
  one_of true b h = inl refl
  one_of false b h = inr h

  second : (a b : Bool) → b ≡ true → (a || b) ≡ true
  second true b h = refl
  second false b h = h

  closed : (c : ℕ) (held : List ℕ) → Passed held c → is_among c held ≡ true → Closed held
  closed c held h i x j = (
    (h x j).0,
    λ y e. elim (one_of (nat_eq y c) (is_among y held) ((h x j).1 y e)) [
      | inl q ↦ ap (λ z. is_among z held) (eqb-true y c q) ∙ i
      | inr q ↦ q
    ],
  )

  passed : (c y : ℕ) (held : List ℕ) → Passed held c → has c ≡ None → above c ≡ Some y → Passed (c ∷ held) y
  passed c y held h o b x j = elim (one_of (nat_eq x c) (is_among x held) j) [
    | inl q ↦ (ap has (eqb-true x c q) ∙ o, λ z e. let s : z ≡ y = cc (e, b, ap above (eqb-true x c q)) in ap (λ t. t || is_among z (c ∷ held)) (eq-eqb z y s))
    | inr q ↦ ((h x q).0, λ z e. second (nat_eq z y) (is_among z (c ∷ held)) ((h x q).1 z e))
  ]

  stays : (k : ℕ) (held : List ℕ) → nearest has (climb above k held None) ≡ None
  stays zero held = refl
  stays (suc k) held = refl

  onward : (k c : ℕ) (held : List ℕ) (b : Option ℕ) → ((y : ℕ) → b ≡ Some y → upward has above k y ≡ nearest has (climb above k (c ∷ held) (Some y))) → option_and_then (upward has above k) b ≡ nearest has (climb above k (c ∷ held) b)
  onward k c held None f = sym (stays k (c ∷ held))
  onward k c held (Some y) f = f y refl

  upper : (o p q : Option X) → (o ≡ None → p ≡ q) → (o or_else p) ≡ (o or_else q)
  upper (Some m) p q f = refl
  upper None p q f = f refl

  at_class : (k c : ℕ) (held : List ℕ) → Passed held c → (b : Bool) → is_among c held ≡ b →
      (has c ≡ None → (y : ℕ) → above c ≡ Some y → upward has above k y ≡ nearest has (climb above k (c ∷ held) (Some y))) →
      upward has above (suc k) c ≡ nearest has (if b then [] else c ∷ climb above k (c ∷ held) (above c))
  at_class k c held h true e f = round (suc k) c held (closed c held h e) e
  at_class k c held h false e f = upper (has c) _ _ (λ o. onward k c held (above c) (f o))

  climbs : (k c : ℕ) (held : List ℕ) → Passed held c → upward has above k c ≡ nearest has (climb above k held (Some c))
  climbs zero c held h = refl
  climbs (suc k) c held h = at_class k c held h (is_among c held) refl (λ o y b. climbs k y (c ∷ held) (passed c y held h o b))

  no_one : (c : ℕ) → Passed [] c
  no_one c x h = absurd (differ h)
    where
      differ : false ≡ true → ⊥
      differ h = cc

  -- the search upward finds what the nearest in the chain has
  pub upward_is : (k c : ℕ) → upward has above k c ≡ nearest has (climb above k [] (Some c))
  upward_is k c = climbs k c [] (no_one c)

-- the chain goes by what stands above each
pub climb_same : (above other : ℕ → Option ℕ) → ((c : ℕ) → above c ≡ other c) → (k : ℕ) (held : List ℕ) (o : Option ℕ) → climb above k held o ≡ climb other k held o
climb_same above other h zero held o = refl
climb_same above other h (suc k) held None = refl
climb_same above other h (suc k) held (Some c) =
    ap (λ cs. if is_among c held then [] else c ∷ cs) (ap (climb above k (c ∷ held)) (h c) ∙ climb_same above other h k (c ∷ held) (other c))

pub nearest_same : {X : Type 0} (has other : ℕ → Option X) → ((c : ℕ) → has c ≡ other c) → (cs : List ℕ) → nearest has cs ≡ nearest other cs
nearest_same has other h [] = refl
nearest_same has other h (c ∷ cs) = ap (λ o. o or_else nearest has cs) (h c) ∙ ap (λ o. other c or_else o) (nearest_same has other h cs)
