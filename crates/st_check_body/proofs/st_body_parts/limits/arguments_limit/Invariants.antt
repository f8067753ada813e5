use Rattle.std.proofs.Common.{◌≡◌, drop}
use Rattle.st_tree.specs.Expression.{arguments_of}
use Rattle.st_rules.specs.Faults.{least, earlier}
use Rattle.st_rules.specs.Statements.{argument_limits}
use Rattle.st_check_body.proofs.st_body_parts.limits.arguments_limit.Given as goal

abbrev pub invariant-loop-argument : goal.invariant-loop-argument
invariant-loop-argument l = earlier l.found (least (argument_limits (arguments_of (drop l.argument-index l.arguments)))) ≡ least (argument_limits (arguments_of l.arguments))
