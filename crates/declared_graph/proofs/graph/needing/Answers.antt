use Rattle.std.proofs.Common.{ap, sym, ◌∙◌}
use Rattle.declared_graph.specs.Private.Edges.{edges_from}
use Rattle.declared_graph.specs.Private.Shared.{hub_outs}
use Rattle.declared_graph.proofs.GraphLaws.{needs_within, needing_told}
use Rattle.declared_graph.proofs.graph.needing.Goals as goal

pub returns : goal.returns
returns c =
    needing_told c.args.known.now.list.now c.deref-2.result.now (c.deref-2.ensures.value ∙ c.in_ok-flags.ensures) c.args.decls.now c.requires.list c.in_ok-edges.edges.items c.deref-3.result.now
    (c.in_ok-edges.ensures ∙ ap (λ bs. edges_from 0 (hub_outs bs)) (c.deref.ensures.value ∙ sym c.deref-2.ensures.value)) (c.deref-3.ensures.value ∙ c.in_ok-add_all_needed.ensures) c.in_ok-marks.marks.items c.in_ok-marks.ensures

pub cycles_by_hubs-requires : goal.cycles_by_hubs-requires
cycles_by_hubs-requires c =
    needs_within c.args.known.now.list.now c.deref-2.result.now (c.deref-2.ensures.value ∙ c.in_ok-flags.ensures) c.in_ok-edges.edges.items c.deref-3.result.now
    (c.in_ok-edges.ensures ∙ ap (λ bs. edges_from 0 (hub_outs bs)) (c.deref.ensures.value ∙ sym c.deref-2.ensures.value)) (c.deref-3.ensures.value ∙ c.in_ok-add_all_needed.ensures)
