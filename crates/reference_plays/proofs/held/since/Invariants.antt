use Rattle.std.proofs.Common.{◌≡◌, drop, map}
use Rattle.st_change.specs.OneThread.{since}
use Rattle.reference_plays.specs.Controller.{gone_of}
use Rattle.reference_plays.proofs.held.since.Given as goal

-- those that are left tell what all tell
abbrev pub invariant-loop-task : goal.invariant-loop-task
invariant-loop-task l = since (map gone_of (drop l.task-index l.gone)) l.name ≡ since (map gone_of l.gone) l.name
