use Rattle.std.proofs.Common.{◌≡◌, drop}
use Rattle.st_rules.specs.Modifiers.{written_access}
use Rattle.st_rules.proofs.modifiers.written_access.Given as goal

-- what is left gives what all gives
abbrev pub invariant-loop-modifier : goal.invariant-loop-modifier
invariant-loop-modifier l = written_access (drop l.modifier-index l.modifiers) ≡ written_access l.modifiers
