use Rattle.declared_graph.proofs.OwnLaws.{own_next}
use Rattle.declared_graph.proofs.texts.own_names_fault.Goals as goal

pub loop-named-preserved : goal.loop-named-preserved
loop-named-preserved c = own_next _ _ _ _ _ _ _ c.loop-named-test.true c.named-item.is c.own_value.ensures c.earlier-found.ensures c.loop-named.invariant
