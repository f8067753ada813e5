use Rattle.std.proofs.Common.{refl}
use Rattle.std.proofs.lemmas.Result.{IfOk-weaker}
use Rattle.graph_cycles.proofs.CycleLaws.{decided_by}
use Rattle.graph_cycles.proofs.cycle.on_cycles.Goals as goal

pub returns-then-are_right-clause-decides : goal.returns-then-are_right-clause-decides
returns-then-are_right-clause-decides c = IfOk-weaker c.marks.result _ _ (λ t e i. decided_by c.args.edges.now c.args.hint.now (c.if-are_right.ensures refl) i _ (e i)) c.marks.ensures.marks
