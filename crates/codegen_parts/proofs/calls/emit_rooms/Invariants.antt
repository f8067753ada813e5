use Rattle.std.proofs.Common.{◌≡◌, ◌++◌, drop}
use Rattle.st_tree.specs.Expression.{arguments_of}
use Rattle.code_rules.specs.Code.{output_rooms}
use Rattle.codegen_tables.specs.Context.{plan_in}
use Rattle.codegen_parts.proofs.calls.emit_rooms.Given as goal

abbrev pub invariant-loop-argument : goal.invariant-loop-argument
invariant-loop-argument l =
    (l.cells.items ++ output_rooms (plan_in l.c) l.line l.call.block l.free (arguments_of (drop l.argument-index l.arguments))) ≡ (l.initial.cells.items ++ output_rooms (plan_in l.c) l.line l.call.block l.call.rooms (arguments_of l.arguments))
