use Rattle.std.proofs.Common.{Some}
use Rattle.st_values.specs.View.{program_of}
use Rattle.shape_trees.proofs.UnfoldLaws.{reference_found}
use Rattle.shape_trees.proofs.unfolding.reference.Goals as goal

pub returns-in-Some : goal.returns-in-Some
returns-in-Some c = reference_found (program_of c.args.program.now) c.args.class (Some c.in-Some.name) c.in-Some.ensures
