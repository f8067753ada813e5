-- A chain, one class after the other.
use Rattle.std.proofs.Common.{◌≡◌, ◌≤◌, ◌<◌, ℕ, zero, suc, ◌+◌, ◌-◌, Bool, true, false, List, [], ◌∷◌, ◌++◌, Option, Some, None, refl, sym, ap, ◌∙◌, subst, arith, append_assoc, append-nil}
use Rattle.std.specs.Prelude.{if◌then◌else◌, ◌||◌, nat_eq}
use Rattle.st_rules.specs.Chains.{is_among, climb}

among-push : (n c : ℕ) (ns : List ℕ) → is_among n (ns ++ c ∷ []) ≡ (nat_eq n c || is_among n ns)
among-push n c [] = refl
among-push n c (m ∷ ms) = ap (λ b. nat_eq n m || b) (among-push n c ms) ∙ swap (nat_eq n m) (nat_eq n c) (is_among n ms)
  where
    swap : (a b d : Bool) → (a || (b || d)) ≡ (b || (a || d))
    swap true true d = refl
    swap true false d = refl
    swap false b d = refl

-- after k of so many steps
pub record Climbing (above : ℕ → Option ℕ) (most start : ℕ) (held : List ℕ) (next : Option ℕ) (k : ℕ) : Type 0 where
  pub passed : List ℕ
  pub same : (c : ℕ) → is_among c passed ≡ is_among c held
  pub rest : climb above most [] (Some start) ≡ held ++ climb above (most - k) passed next

module _ (above : ℕ → Option ℕ) (most start : ℕ) where
  pub climb_start : Climbing above most start [] (Some start) 0
  climb_start = record {
    passed = [];
    same = λ c. refl;
    rest = ap (λ n. climb above n [] (Some start)) (let e : most ≡ most - 0 = omega arith in e);
  }

  module _ (held : List ℕ) (next : Option ℕ) (k : ℕ) (to : Climbing above most start held next k) where
    climb_step : (c : ℕ) → next ≡ Some c → is_among c held ≡ false → k < most → Climbing above most start (held ++ c ∷ []) (above c) (k + 1)
    climb_step c e f l = record {
      passed = c ∷ to.passed;
      same = λ d. ap (λ b. nat_eq d c || b) (to.same d) ∙ sym (among-push d c held);
      rest = to.rest ∙ ap (λ cs. held ++ cs) climbed ∙ sym (append_assoc held (c ∷ []) (climb above (most - (k + 1)) (c ∷ to.passed) (above c)));
    }
      where
        fuel : most - k ≡ suc (most - (k + 1))
        fuel = omega (arith, l)

        climbed : climb above (most - k) to.passed next ≡ c ∷ climb above (most - (k + 1)) (c ∷ to.passed) (above c)
        climbed =
            ap (λ m. climb above m to.passed next) fuel ∙ ap (climb above (suc (most - (k + 1))) to.passed) e
            ∙ ap (λ b. if b then [] else c ∷ climb above (most - (k + 1)) (c ∷ to.passed) (above c)) (to.same c ∙ f)

    pub climb_on : (c : ℕ) (longer : List ℕ) (after : Option ℕ) → next ≡ Some c → is_among c held ≡ false → k < most → longer ≡ held ++ c ∷ [] → after ≡ above c → Climbing above most start longer after (k + 1)
    climb_on c longer after e f l p q =
        subst (λ (o : Option ℕ). Climbing above most start longer o (k + 1)) (sym q) (subst (λ (cs : List ℕ). Climbing above most start cs (above c) (k + 1)) (sym p) (climb_step c e f l))

    stopped : (m : ℕ) (o : Option ℕ) → ((c : ℕ) → o ≡ Some c → is_among c to.passed ≡ true) → climb above m to.passed o ≡ []
    stopped zero o h = refl
    stopped (suc m) None h = refl
    stopped (suc m) (Some c) h = ap (λ b. if b then [] else c ∷ climb above m (c ∷ to.passed) (above c)) (h c refl)

    pub climb_none : next ≡ None → held ≡ climb above most [] (Some start)
    climb_none e = sym (to.rest ∙ ap (λ cs. held ++ cs) (stopped (most - k) next (λ c f. cc)) ∙ append-nil held)

    pub climb_back : (c : ℕ) → next ≡ Some c → is_among c held ≡ true → held ≡ climb above most [] (Some start)
    climb_back c e f =
        sym (to.rest ∙ ap (λ cs. held ++ cs) (stopped (most - k) next (λ d g. let q : c ≡ d = cc in subst (λ x. is_among x to.passed ≡ true) q (to.same c ∙ f))) ∙ append-nil held)

    pub climb_end : most ≤ k → held ≡ climb above most [] (Some start)
    climb_end h = sym (to.rest ∙ ap (λ cs. held ++ cs) (ap (λ m. climb above m to.passed next) fuel) ∙ append-nil held)
      where
        fuel : most - k ≡ 0
        fuel = omega (arith, h)
