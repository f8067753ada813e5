use Rattle.std.proofs.Common.{length, ◌-◌}
use Rattle.type_resolution.proofs.told_locals.TellingLaws.{BehindTo}
use Rattle.type_resolution.proofs.told_locals.telling.tell_behind.Given as goal

abbrev pub invariant-names : goal.invariant-names
invariant-names l = BehindTo l.names l.fn.known l.known l.first l.place l.i l.found.0 l.found.1

abbrev pub decreases-names : goal.decreases-names
decreases-names l = length l.names - l.i
