use Rattle.declared_graph.proofs.InnerLaws.{marked_next}
use Rattle.declared_graph.proofs.inner.marked_fault.Goals as goal

pub loop-i-preserved : goal.loop-i-preserved
loop-i-preserved c =
    marked_next c.args.marks.now c.args.names.now c.loop-i.found c.mark_fault.result _ c.loop-i.i c.index-names-i.result c.loop-i-test.true c.index-names-i.is c.mark_fault.ensures c.earlier-found.ensures c.loop-i.invariant
