use Rattle.std.proofs.Common.{◌++◌, List, sym, ap, subst, ◌∙◌}
use Rattle.graph_reach.specs.declared.threads.Edge.{Edge}
use Rattle.graph_cycles.specs.Graph.{AreEdgesOf, marked}
use Rattle.declared_graph.specs.Private.Edges.{out_at}
use Rattle.declared_graph.specs.Private.Shared.{hub_outs}
use Rattle.declared_graph.proofs.EdgeLaws.{are_edges}
use Rattle.declared_graph.proofs.HubLaws.{hub_cycles}
use Rattle.declared_graph.proofs.hubs.cycles_by_hubs.Goals as goal

pub returns : goal.returns
returns c = λ outs gives shared e i.
    let all = hub_outs c.args.flags.now ++ outs in
    ap (λ xs. marked xs i) c.truncate.ensures.items
    ∙ hub_cycles c.args.flags.now outs gives shared c.in_ok-marks.marks.items (λ j. c.in_ok-marks.ensures.cycles (out_at all) (subst (λ (es : List Edge). AreEdgesOf es (out_at all)) (sym e) (are_edges all)) j) i
