-- Tests for cycles, and the ways that they are tests for.
use Rattle.std.proofs.Common.{◌≡◌, ℕ, zero, suc, ◌+◌, ◌<◌, Bool, true, List, [], ◌∷◌, refl, sym, ap, ◌∙◌, arith, inl, inr, nat_eq, length}
use Rattle.std.specs.Prelude.{◌||◌, ◌&&◌}
use Rattle.std.specs.List.{list_any}
use Rattle.std.specs.Bool.{Decides}
use Rattle.st_rules.specs.Chains.{leads_within}
use Rattle.st_rules.specs.Numbered.{each_numbered}
use Rattle.st_rules.proofs.Booleans.{false≢true, either, both, and-both, or-first, or-second, same-tests, Among, any-parts, any-among}
use Rattle.st_rules.proofs.LeadsLaws.{IsWithin, leads_decided}
use Rattle.st_unit_rules.specs.declared_names.Declarations.{Declaration}
use Rattle.st_unit_rules.specs.Cycles.{lies_on_cycle, contained_at, contains_itself, leads_to_cycle}
use Rattle.graph_cycles.specs.Graph.{LiesOnCycle, LeadsToCycle}

module _ (ahead : ℕ → List ℕ) (n : ℕ) (w : IsWithin ahead n) where
  cycle_found : (i : ℕ) → LiesOnCycle ahead i → lies_on_cycle ahead n i ≡ true
  cycle_found i l = any-among (λ k. leads_within ahead n k i) (ahead i) l.next l.edge ((leads_decided ahead n w l.next i).1 l.back)

  cycle_there : (i : ℕ) → lies_on_cycle ahead n i ≡ true → LiesOnCycle ahead i
  cycle_there i h =
      let a : Among (λ k. leads_within ahead n k i) (ahead i) = any-parts (λ k. leads_within ahead n k i) (ahead i) h in
      record { next = a.number; edge = a.among; back = (leads_decided ahead n w a.number i).0 a.passes }

  pub cycle_told : (b : Bool) (i : ℕ) → Decides b (LiesOnCycle ahead i) → b ≡ lies_on_cycle ahead n i
  cycle_told b i d = same-tests b (lies_on_cycle ahead n i) (λ h. cycle_found i (d.0 h)) (λ h. d.1 (cycle_there i h))

-- ---- a test of each number

record Passing (t : ℕ → Bool) (m n : ℕ) : Type 0 where
  place : ℕ
  below : place < n
  passes : t (m + place) ≡ true

module _ {X : Type 0} (t : ℕ → Bool) where
  some_passes : (m : ℕ) (xs : List X) (k : ℕ) → k < length xs → t (m + k) ≡ true → list_any (λ b. b) (each_numbered (λ j x. t j ∷ []) m xs) ≡ true
  some_passes m [] k l h = absurd (omega arith)
  some_passes m (x ∷ xs) zero l h = let z : m + 0 ≡ m = omega arith in or-first (t m) _ (ap t (sym z) ∙ h)
  some_passes m (x ∷ xs) (suc k) l h =
      let z : suc m + k ≡ m + suc k = omega arith in
      let less : k < length xs = omega arith in
      or-second (t m) _ (some_passes (suc m) xs k less (ap t z ∙ h))

  passing : (m : ℕ) (xs : List X) → list_any (λ b. b) (each_numbered (λ j x. t j ∷ []) m xs) ≡ true → Passing t m (length xs)
  passing m [] h = absurd (false≢true h)
  passing m (x ∷ xs) h = elim (either (t m) (list_any (λ b. b) (each_numbered (λ j x. t j ∷ []) (suc m) xs)) h) [
    | inl p ↦ let z : m ≡ m + 0 = omega arith in record { place = 0; below = omega arith; passes = ap t (sym z) ∙ p }
    | inr p ↦
        let r : Passing t (suc m) (length xs) = passing (suc m) xs p in
        let z : m + suc r.place ≡ suc m + r.place = omega arith in
        let below : r.place < length xs = r.below in
        record { place = suc r.place; below = omega arith; passes = ap t z ∙ r.passes }
  ]

module _ (ds : List Declaration) (w : IsWithin (contained_at ds) (length ds)) where
  leads : ℕ → ℕ → Bool
  leads i j = leads_within (contained_at ds) (length ds) i j && contains_itself ds j

  leads_found : (i : ℕ) → LeadsToCycle (contained_at ds) i → leads_to_cycle ds i ≡ true
  unfolding leads
  leads_found i l =
      let below : l.turning < length ds = (w.within l.turning l.cycle.next l.cycle.edge).0 in
      let z : 0 + l.turning ≡ l.turning = omega arith in
      some_passes (leads i) 0 ds l.turning below
      (ap (leads i) z ∙ and-both (leads_within (contained_at ds) (length ds) i l.turning) (contains_itself ds l.turning) ((leads_decided (contained_at ds) (length ds) w i l.turning).1 l.way) (cycle_found (contained_at ds) (length ds) w l.turning l.cycle))

  leads_there : (i : ℕ) → leads_to_cycle ds i ≡ true → LeadsToCycle (contained_at ds) i
  unfolding leads
  leads_there i h =
      let r : Passing (leads i) 0 (length ds) = passing (leads i) 0 ds h in
      let p = both (leads_within (contained_at ds) (length ds) i (0 + r.place)) (contains_itself ds (0 + r.place)) r.passes in
      record { turning = 0 + r.place; way = (leads_decided (contained_at ds) (length ds) w i (0 + r.place)).0 p.0; cycle = cycle_there (contained_at ds) (length ds) w (0 + r.place) p.1 }

  pub leads_told : (b : Bool) (i : ℕ) → Decides b (LeadsToCycle (contained_at ds) i) → b ≡ leads_to_cycle ds i
  leads_told b i d = same-tests b (leads_to_cycle ds i) (λ h. leads_found i (d.0 h)) (λ h. d.1 (leads_there i h))

-- ---- graphs that lead alike

any_same : (p q : ℕ → Bool) → ((k : ℕ) → p k ≡ q k) → (xs : List ℕ) → list_any p xs ≡ list_any q xs
any_same p q h [] = refl
any_same p q h (x ∷ xs) = ap (λ b. b || list_any p xs) (h x) ∙ ap (λ b. q x || b) (any_same p q h xs)

module _ (f g : ℕ → List ℕ) (h : (i : ℕ) → f i ≡ g i) where
  leads_same : (m i j : ℕ) → leads_within f m i j ≡ leads_within g m i j
  leads_same zero i j = refl
  leads_same (suc m) i j = ap (λ b. nat_eq i j || b) (any_same (λ k. leads_within f m k j) (λ k. leads_within g m k j) (λ k. leads_same m k j) (f i) ∙ ap (list_any (λ k. leads_within g m k j)) (h i))

  pub cycle_same : (n i : ℕ) → lies_on_cycle f n i ≡ lies_on_cycle g n i
  cycle_same n i = any_same (λ k. leads_within f n k i) (λ k. leads_within g n k i) (λ k. leads_same n k i) (f i) ∙ ap (list_any (λ k. leads_within g n k i)) (h i)
