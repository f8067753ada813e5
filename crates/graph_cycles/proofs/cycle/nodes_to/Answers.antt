use Rattle.graph_cycles.proofs.BridgeLaws.{to_marked}
use Rattle.graph_cycles.proofs.cycle.nodes_to.Goals as goal

pub returns-clause-leads : goal.returns-clause-leads
returns-clause-leads c = λ ahead told i. to_marked c.args.edges.now ahead told c.args.goals.items _ i (c.behind-marks.ensures.ends i)
