use Rattle.std.proofs.Common.{◌≡◌, drop}
use Rattle.std.specs.List.{list_any}
use Rattle.st_rules.specs.ClassRules.{is_statement}
use Rattle.st_rules.proofs.methods.has_statements.Given as goal

-- what is left gives what all gives
abbrev pub invariant-loop-stmt : goal.invariant-loop-stmt
invariant-loop-stmt g l = list_any is_statement (drop l.stmt-index l.body) ≡ list_any is_statement l.body
