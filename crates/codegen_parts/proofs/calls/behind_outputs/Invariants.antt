use Rattle.std.proofs.Common.{◌≡◌, drop}
use Rattle.st_tree.specs.Expression.{arguments_of}
use Rattle.code_rules.specs.Code.{behind_outputs}
use Rattle.codegen_tables.specs.Context.{plan_in}
use Rattle.codegen_parts.proofs.calls.behind_outputs.Given as goal

abbrev pub invariant-loop-argument : goal.invariant-loop-argument
invariant-loop-argument l = behind_outputs (plan_in l.c) l.at (arguments_of (drop l.argument-index l.arguments)) ≡ behind_outputs (plan_in l.c) l.free (arguments_of l.arguments)
