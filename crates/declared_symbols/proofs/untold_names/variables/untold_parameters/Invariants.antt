use Rattle.std.proofs.Common.{◌≡◌, ◌++◌, drop, map}
use Rattle.st_unit_rules.specs.declaration_list.Written.{written_of}
use Rattle.declared_symbols.specs.untold_names.Untold.{untold_parameters}
use Rattle.declared_symbols.proofs.untold_names.variables.untold_parameters.Given as goal

-- what was declared, and what the rest declares, is all
abbrev pub invariant-loop-name : goal.invariant-loop-name
invariant-loop-name l = (l.list ++ untold_parameters l.next (map written_of (drop l.name-index l.names))) ≡ untold_parameters l.first (map written_of l.names)
