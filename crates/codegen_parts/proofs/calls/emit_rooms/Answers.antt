use Rattle.codegen_tables.specs.Context.{plan_in}
use Rattle.codegen_parts.proofs.CallLaws.{output_rooms_next}
use Rattle.codegen_parts.proofs.calls.emit_rooms.Goals as goal

pub loop-argument-preserved : goal.loop-argument-preserved
loop-argument-preserved c =
    output_rooms_next (plan_in c.args.c.now) c.args.line c.args.call.now.block c.args.arguments.now c.loop-argument.argument-index c.argument-item.result _ _ c.loop-argument.cells.items _ _ c.loop-argument-test.true c.argument-item.is
    c.in_ok-emit_room.ensures c.in_ok-free.ensures c.loop-argument.invariant
