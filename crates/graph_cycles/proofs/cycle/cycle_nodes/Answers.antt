use Rattle.graph_cycles.proofs.BridgeLaws.{on_cycle}
use Rattle.graph_cycles.proofs.cycle.cycle_nodes.Goals as goal

pub returns-clause-cycles : goal.returns-clause-cycles
returns-clause-cycles c = λ ahead told i. on_cycle c.args.edges.now ahead told _ i (c.in_ok-marks.ensures.decides i)
