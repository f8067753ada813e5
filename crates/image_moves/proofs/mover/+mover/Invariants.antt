use Rattle.std.proofs.Common.{◌≡◌, ◌+◌, ◌*◌, ◌-◌, ◌≤◌, length, drop}
use Rattle.image_moves.specs.Moves.{moved, repeated, AreWithin}
use Rattle.image_moves.specs.MoveViews.{move_of, moves_of}
use Rattle.image_moves.proofs.MoverLaws.{levels, levels_of, MovesLeft, TurnsLeft}
use Rattle.image_moves.proofs.mover.+mover.Given as goal

abbrev pub invariant-apply_moves-loop-one : goal.invariant-apply_moves-loop-one
invariant-apply_moves-loop-one g l = MovesLeft (g.R.Relocates.by l.relocation) l.source (drop l.one-index l.moves) l.moves l.from l.to l.initial.image l.image

abbrev pub invariant-apply_repeated-loop-turn : goal.invariant-apply_repeated-loop-turn
invariant-apply_repeated-loop-turn g l = TurnsLeft (g.R.Relocates.by l.relocation) l.source (moves_of l.moves) l.turns.count l.turn (l.from + l.turns.from) (l.to + l.turns.to) l.turns.far l.turns.further l.initial.image l.image

abbrev pub decreases-apply_moves : goal.decreases-apply_moves
decreases-apply_moves g l = 3 * levels_of (moves_of l.moves.now) + 1

abbrev pub decreases-apply_move : goal.decreases-apply_move
decreases-apply_move g l = 3 * levels (move_of l.one.now)

abbrev pub decreases-apply_repeated : goal.decreases-apply_repeated
decreases-apply_repeated g l = 3 * levels_of (moves_of l.moves.now) + 2
