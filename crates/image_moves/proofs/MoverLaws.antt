-- Moves that are left, move by move and turn by turn.
use Rattle.std.proofs.Common.{◌≡◌, ◌≤◌, ◌<◌, ℕ, zero, suc, ◌+◌, ◌-◌, ◌*◌, ℤ, pos, List, [], ◌∷◌, length, drop, refl, sym, ap, ◌∙◌, subst, arith}
use Rattle.std.specs.Prelude.{max}
use Rattle.image_moves.specs.Moves.{Move, Moves, no_moves, move_then, copy, address, clear, repeat, repeated, moved_by, moved, IsWithin, AreWithin}
use Rattle.image_moves.specs.declared.moves.Move.{Move as CodeMove}
use Rattle.image_moves.specs.declared.moves.Turns.{Turns}
use Rattle.image_moves.specs.declared.moves.Move.TheVariants as code
use Rattle.image_moves.specs.MoveViews.{move_of, moves_of, move-Copy, move-Address, move-Clear, move-Repeat}
use Rattle.image_moves.proofs.MoveFacts.{Stays, move_stays, moves_stay}

-- how deep moves repeat
abbrev mutual
  pub levels : Move → ℕ
  levels (copy from to n) = 0
  levels (address aim from to) = 0
  levels (clear to) = 0
  levels (repeat n from to a b ms) = suc (levels_of ms)

  pub levels_of : Moves → ℕ
  levels_of no_moves = 0
  levels_of (move_then m ms) = max (levels m) (levels_of ms)

-- what these moves do to the image as it is now is what all of them do to the image as it was
pub record MovesLeft (relocated : ℕ → ℤ → ℤ) (source : List ℕ) (left all : List CodeMove) (i j : ℕ) (before now : List ℕ) : Type 0 where
  pub shallow : levels_of (moves_of left) ≤ levels_of (moves_of all)
  pub within : AreWithin (moves_of left) (length source - i) (length before - j)
  pub long : length now ≡ length before
  pub same : moved relocated source (moves_of left) i j now ≡ moved relocated source (moves_of all) i j before

pub record TurnsLeft (relocated : ℕ → ℤ → ℤ) (source : List ℕ) (ms : Moves) (count turn i j a b : ℕ) (before now : List ℕ) : Type 0 where
  pub long : length now ≡ length before
  pub same : repeated (moved relocated source ms) (count - turn) (i + turn * a) (j + turn * b) a b now ≡ repeated (moved relocated source ms) count i j a b before

mutual
  move_wider : (m : Move) (s d s' d' : ℕ) → s ≤ s' → d ≤ d' → IsWithin m s d → IsWithin m s' d'
  move_wider (copy from to n) s d s' d' h g w = (omega (arith, w.0), omega (arith, w.1))
  move_wider (address aim from to) s d s' d' h g w = (omega (arith, w.0), omega (arith, w.1))
  move_wider (clear to) s d s' d' h g w = omega (arith, w)
  move_wider (repeat n from to a b ms) s d s' d' h g w = (omega (arith, w.0), omega (arith, w.1), w.2)

  pub moves_wider : (ms : Moves) (s d s' d' : ℕ) → s ≤ s' → d ≤ d' → AreWithin ms s d → AreWithin ms s' d'
  moves_wider no_moves s d s' d' h g w = tt
  moves_wider (move_then m ms) s d s' d' h g w = (move_wider m s d s' d' h g w.0, moves_wider ms s d s' d' h g w.1)

-- one turn of several
pub turn_within : (count turn from far reach : ℕ) → turn < count → from + count * far ≤ reach → from + turn * far + far ≤ reach
turn_within count turn from far reach h g =
    let more : turn * far + far ≤ count * far = grind arith in
    omega arith

pub turn_done : (relocated : ℕ → ℤ → ℤ) (source : List ℕ) (ms : Moves) (count turn i j a b : ℕ) (before now next : List ℕ) → turn < count → TurnsLeft relocated source ms count turn i j a b before now
    → next ≡ moved relocated source ms (i + turn * a) (j + turn * b) now → length next ≡ length now → TurnsLeft relocated source ms count (turn + 1) i j a b before next
turn_done relocated source ms count turn i j a b before now next h left e l =
    let f = moved relocated source ms in
    let one : count - turn ≡ suc (count - (turn + 1)) = omega arith in
    let at : i + (turn + 1) * a ≡ i + turn * a + a = grind arith in
    let to : j + (turn + 1) * b ≡ j + turn * b + b = grind arith in
    record {
      long = l ∙ left.long;
      same =
          ap (λ x. repeated f (count - (turn + 1)) x (j + (turn + 1) * b) a b next) at
          ∙ ap (λ y. repeated f (count - (turn + 1)) (i + turn * a + a) y a b next) to
          ∙ ap (repeated f (count - (turn + 1)) (i + turn * a + a) (j + turn * b + b) a b) e
          ∙ ap (λ k. repeated f k (i + turn * a) (j + turn * b) a b now) (sym one)
          ∙ left.same;
    }

-- what a move that repeats asks
pub repeat_within : (m : CodeMove) (t : Turns) (ms : List CodeMove) (s d : ℕ) → m ≡ code.Repeat t ms → IsWithin (move_of m) s d → (t.from + t.count * t.far ≤ s) × (t.to + t.count * t.further ≤ d) × AreWithin (moves_of ms) t.far t.further
repeat_within m t ms s d e w = subst (λ x. IsWithin x s d) (ap move_of e ∙ move-Repeat t ms) w

pub repeat_levels : (m : CodeMove) (t : Turns) (ms : List CodeMove) → m ≡ code.Repeat t ms → levels (move_of m) ≡ suc (levels_of (moves_of ms))
repeat_levels m t ms e = ap (λ x. levels (move_of x)) e ∙ ap levels (move-Repeat t ms)
