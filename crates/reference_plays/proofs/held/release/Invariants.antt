use Rattle.std.proofs.Common.{◌≡◌}
use Rattle.st_change.specs.OneThread.{released}
use Rattle.reference_plays.proofs.held.release.Given as goal

abbrev pub invariant-loop-task : goal.invariant-loop-task
invariant-loop-task l = l.held.items ≡ released l.yielded l.name
