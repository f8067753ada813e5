use Rattle.std.proofs.Common.{refl}
use Rattle.shape_trees.proofs.UnfoldLaws.{interface_found, no_interface}
use Rattle.shape_trees.proofs.unfolding.interface.Goals as goal

pub returns-in-Some : goal.returns-in-Some
returns-in-Some c = interface_found c.args.program.now c.args.number c.in-Some.decl.now _ c.in-Some.ensures.value refl

pub returns-in-None : goal.returns-in-None
returns-in-None c = no_interface c.args.program.now c.args.number c.in-None.ensures.value
