use Rattle.declared_graph.proofs.GraphLaws.{contained_edges_within, containing_told}
use Rattle.declared_graph.proofs.graph.containing.Goals as goal

pub returns : goal.returns
returns c = containing_told c.args.known.now.list.now c.args.edges.now c.requires c.in_ok-marks.marks.items c.in_ok-marks.ensures.cycles

pub cycle_nodes-requires : goal.cycle_nodes-requires
cycle_nodes-requires c = contained_edges_within c.args.known.now.list.now c.args.edges.now c.requires
