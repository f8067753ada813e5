use Rattle.std.proofs.Common.{◌≡◌, ◌++◌, drop}
use Rattle.st_tree.specs.Expression.{arguments_of}
use Rattle.st_rules.specs.Calls.{heads}
use Rattle.check_calls.specs.Heads.{heads_told}
use Rattle.check_calls.proofs.heads.heads_of.Given as goal

abbrev pub invariant-loop-argument : goal.invariant-loop-argument
invariant-loop-argument l = heads_told l.list.items ++ heads (arguments_of (drop l.argument-index l.arguments)) ≡ heads (arguments_of l.arguments)
