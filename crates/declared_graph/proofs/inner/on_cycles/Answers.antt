use Rattle.std.proofs.Common.{ap, sym, ◌∙◌}
use Rattle.declared_graph.specs.Private.Edges.{edges_from}
use Rattle.declared_graph.specs.Private.Shared.{hub_outs}
use Rattle.declared_graph.proofs.InnerLaws.{inner_within, inner_told}
use Rattle.declared_graph.proofs.inner.on_cycles.Goals as goal

pub returns : goal.returns
returns c = λ sections is.
    inner_told c.in_ok-table.table c.args.names.now c.in_ok-table.ensures c.deref-2.result.now (c.deref-2.ensures.value ∙ c.in_ok-flags.ensures) sections is c.in_ok-edges.edges.items c.deref-3.result.now
    (c.in_ok-edges.ensures ∙ ap (λ bs. edges_from 0 (hub_outs bs)) (c.deref.ensures.value ∙ sym c.deref-2.ensures.value)) (c.deref-3.ensures.value ∙ c.in_ok-add_all_needed.ensures) c.in_ok-marks.marks.items c.in_ok-marks.ensures

pub cycles_by_hubs-requires : goal.cycles_by_hubs-requires
cycles_by_hubs-requires c =
    inner_within c.in_ok-table.table c.args.names.now c.in_ok-table.ensures c.deref-2.result.now (c.deref-2.ensures.value ∙ c.in_ok-flags.ensures) c.in_ok-edges.edges.items c.deref-3.result.now
    (c.in_ok-edges.ensures ∙ ap (λ bs. edges_from 0 (hub_outs bs)) (c.deref.ensures.value ∙ sym c.deref-2.ensures.value)) (c.deref-3.ensures.value ∙ c.in_ok-add_all_needed.ensures)
