use Rattle.std.proofs.Common.{refl}
use Rattle.shape_trees.proofs.UnfoldLaws.{no_type, enumeration_there, no_enumeration}
use Rattle.shape_trees.proofs.unfolding.enumeration.Goals as goal

pub returns-in-Enumeration : goal.returns-in-Enumeration
returns-in-Enumeration c = enumeration_there c.args.program.now c.args.number c.in-Some.decl.now _ _ _ c.in-Some.ensures.value c.in-Enumeration.is refl refl

pub returns-in-Alias : goal.returns-in-Alias
returns-in-Alias c = no_enumeration c.args.program.now c.args.number c.in-Some.decl.now _ c.in-Some.ensures.value c.in-Alias.is refl

pub returns-in-Structure : goal.returns-in-Structure
returns-in-Structure c = no_enumeration c.args.program.now c.args.number c.in-Some.decl.now _ c.in-Some.ensures.value c.in-Structure.is refl

pub returns-in-None : goal.returns-in-None
returns-in-None c = no_type c.args.program.now c.args.number c.in-None.ensures.value
