use Rattle.std.proofs.Common.{length}
use Rattle.std.specs.Prelude.{option_map}
use Rattle.st_values.specs.View.{program_of}
use Rattle.footprints.specs.reached_routines.Private.Adds.{Takes, Aims}
use Rattle.footprints.proofs.reached_routines.search.add_aimed.Given as goal

abbrev pub invariant-classes : goal.invariant-classes
invariant-classes l = Takes l.tables (Aims (program_of l.tables) (option_map (λ n. n.now) l.name)) l.classes l.left l.fn.found.ids.items l.found.ids.items

abbrev pub decreases-classes : goal.decreases-classes
decreases-classes l = length l.left
