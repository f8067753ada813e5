use Rattle.std.proofs.Common.{◌≡◌, ◌++◌, drop}
use Rattle.check_declared_variables.proofs.variable_rules.copies.copied_names.Given as goal

-- what was copied, and what is left, is the whole
abbrev pub invariant-loop-name : goal.invariant-loop-name
invariant-loop-name l = l.copy ++ drop l.name-index l.names ≡ l.names
