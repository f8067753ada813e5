use Rattle.std.proofs.Common.{◌≡◌}
use Rattle.core_plays.specs.Playable.{SameCore}
use Rattle.core_plays.specs.Private.Rest.{RestsAt}
use Rattle.core_plays.proofs.plays.play_in_order.Given as goal

abbrev pub invariant-loop-play : goal.invariant-loop-play
invariant-loop-play g l = SameCore l.initial.core l.core × RestsAt g.P.Controlled.meaning l.done l.core × (l.done ≡ l.play-index)
