use Rattle.codegen_tables.specs.Context.{plan_in}
use Rattle.codegen_parts.proofs.CallLaws.{rooms_next}
use Rattle.codegen_parts.proofs.calls.behind_outputs.Goals as goal

pub loop-argument-preserved : goal.loop-argument-preserved
loop-argument-preserved c = rooms_next (plan_in c.args.c.now) c.args.arguments.now c.loop-argument.argument-index c.argument-item.result _ _ _ c.loop-argument-test.true c.argument-item.is c.in_ok-at.ensures c.loop-argument.invariant
