use Rattle.declared_graph.proofs.PlaceLaws.{constant_there, constant_past}
use Rattle.declared_graph.proofs.known.constant_at.Goals as goal

pub returns-in-Some : goal.returns-in-Some
returns-in-Some c = constant_there c.args.list.now c.args.place c.in-Some.declared.now c.if_constant.result c.in-Some.ensures.lookup.3.0 c.in-Some.ensures.lookup.1 c.if_constant.ensures

pub returns-in-None : goal.returns-in-None
returns-in-None c = constant_past c.args.list.now c.args.place c.in-None.ensures.lookup.3
