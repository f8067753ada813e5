use Rattle.std.proofs.Common.{◌≡◌, ◌+◌, drop}
use Rattle.st_tree.specs.Expression.{arguments_of}
use Rattle.code_rules.specs.Code.{given_bits}
use Rattle.routine_tables.specs.Parameters.{parameters_of}
use Rattle.codegen_parts.proofs.calls.given_bits.Given as goal

abbrev pub invariant-loop-argument : goal.invariant-loop-argument
invariant-loop-argument l =
    l.mask + given_bits (parameters_of l.parameters) l.i (parameters_of l.left) (arguments_of (drop l.argument-index l.arguments)) ≡ given_bits (parameters_of l.parameters) 0 (parameters_of l.parameters) (arguments_of l.arguments)
