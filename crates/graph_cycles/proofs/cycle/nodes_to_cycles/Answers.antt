use Rattle.graph_cycles.proofs.BridgeLaws.{to_cycle}
use Rattle.graph_cycles.proofs.cycle.nodes_to_cycles.Goals as goal

pub returns-clause-cycles : goal.returns-clause-cycles
returns-clause-cycles c = λ ahead told i.
    to_cycle ahead c.in_ok-on_cycle.on_cycle.items _ i (λ j. c.in_ok-on_cycle.ensures.cycles ahead told j) (c.in_ok-marks.ensures.leads ahead told i)
