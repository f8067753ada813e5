use Rattle.declared_graph.proofs.GraphLaws.{contained_edges_within, leading_told}
use Rattle.declared_graph.proofs.graph.leading.Goals as goal

pub returns : goal.returns
returns c = leading_told c.args.known.now.list.now c.args.edges.now c.requires c.in_ok-marks.marks.items c.in_ok-marks.ensures.cycles

pub nodes_to_cycles-requires : goal.nodes_to_cycles-requires
nodes_to_cycles-requires c = contained_edges_within c.args.known.now.list.now c.args.edges.now c.requires
