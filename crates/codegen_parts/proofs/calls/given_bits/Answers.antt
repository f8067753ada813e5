use Rattle.routine_tables.specs.Parameters.{parameters_of}
use Rattle.codegen_parts.proofs.CallLaws.{given_next}
use Rattle.codegen_parts.proofs.calls.given_bits.Goals as goal

pub loop-argument-preserved : goal.loop-argument-preserved
loop-argument-preserved c =
    given_next (parameters_of c.args.parameters.now) c.args.arguments.now c.loop-argument.argument-index c.argument-item.result _ _ _ _ c.in_ok-number.number c.loop-argument.mask _ _ c.loop-argument-test.true c.argument-item.is
    c.in_ok-number.ensures c.in_ok-mask.ensures c.in_ok-i.ensures c.left_behind-left.ensures c.loop-argument.invariant
