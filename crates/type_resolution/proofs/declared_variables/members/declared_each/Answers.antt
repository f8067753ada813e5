use Rattle.type_resolution.proofs.declared_variables.NumberLaws.{like_all}
use Rattle.type_resolution.proofs.declared_variables.members.declared_each.Goals as goal

pub returns : goal.returns
returns c = like_all c.args.untold.now c.args.names.now c.loop-i.i c.loop-i.list c.loop-i-test.false c.loop-i.invariant
