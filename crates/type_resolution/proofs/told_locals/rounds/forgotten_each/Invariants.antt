use Rattle.std.proofs.Common.{◌≡◌, ◌++◌, map, drop}
use Rattle.st_unit_rules.specs.declared_names.UnitNames.{forgotten}
use Rattle.type_resolution.proofs.told_locals.rounds.forgotten_each.Given as goal

abbrev pub invariant-loop-variable : goal.invariant-loop-variable
invariant-loop-variable l = l.list ++ map forgotten (drop l.variable-index l.variables) ≡ map forgotten l.variables
