use Rattle.declared_graph.proofs.inner.put.Goals as goal

pub returns : goal.returns
returns c = λ name. c.in_ok-insert.ensures.updates.0 name
