-- Entries that fit, one after the other.
use Rattle.std.proofs.Common.{◌≡◌, ℕ, zero, suc, ◌+◌, ◌<◌, ◌≤◌, List, [], ◌∷◌, length, get_or, take, subst, arith}
use Rattle.cycle_journal.specs.declared.play.Play.{Play}
use Rattle.cycle_journal.specs.declared.entry.Entry.{Entry}
use Rattle.cycle_journal.specs.Fits.{Fits, FitsEntry}

-- so many entries fit
pub record FitTo (plays : List Play) (entries : List Entry) (i : ℕ) : Type 0 where
  pub first : Fits plays (take i entries)

module _ (plays : List Play) where
  one_more : (es : List Entry) (i : ℕ) (e : Entry) → i < length es → e ≡ get_or es i e → FitsEntry plays e → Fits plays (take i es) → Fits plays (take (suc i) es)
  one_more [] i e l is fit h = absurd (omega (arith, l))
  one_more (x ∷ es) zero e l is fit h = (subst (FitsEntry plays) is fit, tt)
  one_more (x ∷ es) (suc i) e l is fit h = (h.0, one_more es i e (omega (arith, l)) is fit h.1)

  all : (es : List Entry) (i : ℕ) → length es ≤ i → Fits plays (take i es) → Fits plays es
  all [] i l h = tt
  all (x ∷ es) zero l h = absurd (omega (arith, l))
  all (x ∷ es) (suc i) l h = (h.0, all es i (omega (arith, l)) h.1)

  pub fit_begun : (es : List Entry) → FitTo plays es 0
  fit_begun es = record { first = tt }

  pub fit_next : (es : List Entry) (i : ℕ) (e : Entry) → i < length es → e ≡ get_or es i e → FitsEntry plays e → FitTo plays es i → FitTo plays es (i + 1)
  fit_next es i e l is fit t = let m : suc i ≡ i + 1 = omega arith in record { first = subst (λ (k : ℕ). Fits plays (take k es)) m (one_more es i e l is fit t.first) }

  pub fit_ended : (es : List Entry) (i : ℕ) → length es ≤ i → FitTo plays es i → Fits plays es
  fit_ended es i l t = all es i l t.first
