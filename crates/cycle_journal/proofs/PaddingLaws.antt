-- Bytes that are put into empty room stand in padded room.
use Rattle.std.proofs.Common.{◌≡◌, ℕ, ◌-◌, ◌≤◌, List, ◌++◌, length, drop, ◌∙◌, arith, length-append, length-drop}
use Rattle.std.specs.Prelude.{replicate}
use Rattle.std.proofs.lemmas.List.{length-replicate, drop-replicate, drop_at}
use Rattle.cycle_journal.specs.Outputs.{IsPadded}

padded_in : (front : List ℕ) (len size : ℕ) → len ≤ size → length front ≡ len
    → (length (front ++ drop len (replicate size 0)) ≡ size) × (drop len (front ++ drop len (replicate size 0)) ≡ replicate (size - len) 0)
padded_in front len size l same =
    let room : List ℕ = replicate size 0 in (
      omega (arith, length-append front (drop len room), length-drop len room, length-replicate {A = ℕ} size 0),
      drop_at front (drop len room) len same ∙ drop-replicate len size 0,
    )

pub padded : (front : List ℕ) (len : ℕ) → len ≤ 256 → length front ≡ len → IsPadded (front ++ drop len (replicate 256 0)) len
padded front len l same =
    let is = padded_in front len 256 l same in
    record { few = l; size = is.0; rest = is.1 }
