-- The phases of plays, found in one walk.
use Rattle.std.proofs.Common.{◌≡◌, ℕ, zero, suc, ◌<◌, ◌≤◌, ◌+◌, ◌-◌, ◌++◌, List, [], ◌∷◌, length, drop, nat_lt, Bool, true, false, if◌then◌else◌, refl, sym, ap, ◌∙◌, arith, length-append}
use Rattle.std.proofs.lemmas.Bool.Decides.{nat_tests}
use Rattle.std.proofs.lemmas.List.{length-drop, get_or_append_left}
use Rattle.std.proofs.Math.Seq.{get_or-append_seam}
use mathlib.Core.Logic.{dite}
use native.Mathlib.Decide.{ℕ_discrete}
use Rattle.cycle_journal.specs.Interleaving.{Phase}
use Rattle.plant_rules.specs.History.{phase_of}
use Rattle.plant_core.specs.play_order.Private.Tables.{HavePhases, number_at}

-- the first n phases end at the play or before it
pub record Passed (phases : List Phase) (play n i : ℕ) : Type 0 where
  pub so-far : n ≡ i
  pub rest : phase_of phases play ≡ n + phase_of (drop i phases) play

-- phases that end before a play end before all later ones
pub phase_later : (phases : List Phase) (p q k : ℕ) → p ≤ q → phase_of phases p ≡ k → phase_of phases q ≡ k + phase_of (drop k phases) q
phase_later phases p q zero h e = omega arith
phase_later [] p q (suc k) h e = absurd (omega (arith, e))
phase_later (x ∷ xs) p q (suc k) h e = by (nat_lt p x.1) (nat_lt q x.1) refl refl (λ i. phase_later xs p q k h i)
  where
    by : (a b : Bool) → nat_lt p x.1 ≡ a → nat_lt q x.1 ≡ b → (phase_of xs p ≡ k → phase_of xs q ≡ k + phase_of (drop k xs) q) → (if nat_lt q x.1 then 0 else suc (phase_of xs q)) ≡ suc k + phase_of (drop k xs) q
    by true b i j rest = absurd (let z : 0 ≡ suc k = sym (ap (λ t. if t then 0 else suc (phase_of xs p)) i) ∙ e in omega (arith, z))
    by false true i j rest = absurd (let far : x.1 ≤ p = grind (arith, nat_tests, i) in let near : q < x.1 = grind (arith, nat_tests, j) in omega (arith, far, near, h))
    by false false i j rest =
        let here : suc (phase_of xs p) ≡ suc k = sym (ap (λ t. if t then 0 else suc (phase_of xs p)) i) ∙ e in
        let k' = rest (omega (arith, here)) in
        ap (λ t. if t then 0 else suc (phase_of xs q)) j ∙ omega (arith, k')

pub phase_few : (phases : List Phase) (p : ℕ) → phase_of phases p ≤ length phases
phase_few [] p = omega arith
phase_few (x ∷ xs) p = by (nat_lt p x.1) (phase_few xs p)
  where
    by : (b : Bool) → phase_of xs p ≤ length xs → (if b then 0 else suc (phase_of xs p)) ≤ length (x ∷ xs)
    by true k = omega arith
    by false k = omega (arith, k)

-- the numbers of the plays before this one stand in the list, and these phases are left
pub record Numbering (phases left : List Phase) (play : ℕ) (numbers : List ℕ) : Type 0 where
  pub total : length numbers ≡ play
  pub each : (p : ℕ) → p < play → number_at numbers p ≡ phase_of phases p
  pub within : length left ≤ length phases
  pub later : (q : ℕ) → play ≤ q → phase_of phases q + length left ≡ length phases + phase_of left q

pub numbering_begun : (phases : List Phase) (numbers : List ℕ) → numbers ≡ [] → Numbering phases phases 0 numbers
numbering_begun phases numbers e = record { total = ap length e; each = λ p h. absurd (omega (arith, h)); within = omega arith; later = λ q h. omega arith }

pub numbering_next : (phases left left' : List Phase) (more play : ℕ) (numbers numbers' : List ℕ) → Numbering phases left play numbers → more ≡ phase_of left play → left' ≡ drop more left
    → numbers' ≡ numbers ++ (length phases - length left') ∷ [] → Numbering phases left' (play + 1) numbers'
numbering_next phases left left' more play numbers numbers' k is left-is added =
    let few = phase_few left play in
    let total = k.total in
    let long : length left' ≡ length left - more = ap length left-is ∙ length-drop more left in
    let within = k.within in
    let x = length phases - length left' in
    let here : x ≡ phase_of phases play = let e = k.later play (omega arith) in omega (arith, e, is, long, within, few) in
    record {
      total = ap length added ∙ (rw length-append (omega (arith, total)));
      each = λ p h. ap (λ z. number_at z p) added ∙ dite (ℕ_discrete p play)
          (λ e. ap (λ z. number_at (numbers ++ x ∷ []) z) (e ∙ sym total) ∙ (get_or-append_seam numbers x [] 0 ∙ (here ∙ ap (phase_of phases) (sym e))))
          (λ ne. let low : p < play = omega (arith, h, ne) in get_or_append_left numbers (x ∷ []) 0 p (omega (arith, low, total)) ∙ k.each p low);
      within = omega (arith, within, long);
      later = λ q h.
          let a = k.later q (omega (arith, h)) in
          let b = phase_later left play q more (omega (arith, h)) (sym is) in
          let d : phase_of left' q ≡ phase_of (drop more left) q = ap (λ z. phase_of z q) left-is in
          omega (arith, a, b, d, long, few, is);
    }

pub numbering_ended : (phases left : List Phase) (play n : ℕ) (numbers : List ℕ) → Numbering phases left play numbers → play ≡ n → HavePhases phases numbers n
numbering_ended phases left play n numbers k e = record { total = k.total ∙ e; each = λ p h. k.each p (omega (arith, h, e)) }
