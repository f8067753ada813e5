use Rattle.std.proofs.Common.{length}
use Rattle.st_values.specs.View.{program_of}
use Rattle.footprints.specs.reached_routines.Private.Adds.{Takes, Begins}
use Rattle.footprints.proofs.reached_routines.search.begin.Given as goal

abbrev pub invariant-programs : goal.invariant-programs
invariant-programs l = Takes l.s.callables.tables.now (Begins (program_of l.s.callables.tables.now)) l.programs l.left l.fn.found.ids.items l.found.ids.items

abbrev pub decreases-programs : goal.decreases-programs
decreases-programs l = length l.left
