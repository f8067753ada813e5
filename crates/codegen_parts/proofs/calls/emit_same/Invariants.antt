use Rattle.std.proofs.Common.{◌≡◌, ◌++◌, length}
use Rattle.code_rules.specs.Code.{same_code}
use Rattle.codegen_tables.specs.Context.{plan_in}
use Rattle.routine_tables.specs.Parameters.{parameters_of}
use Rattle.codegen_parts.proofs.calls.emit_same.Given as goal

abbrev pub invariant-parameters : goal.invariant-parameters
invariant-parameters l = (l.cells.items ++ same_code (plan_in l.c) l.line l.block l.i (parameters_of l.left)) ≡ (l.initial.cells.items ++ same_code (plan_in l.c) l.line l.block 0 (parameters_of l.parameters))

abbrev pub decreases-parameters : goal.decreases-parameters
decreases-parameters l = length l.left
