use Rattle.std.proofs.Common.{◌≡◌, ◌++◌, drop}
use Rattle.std.specs.Prelude.{filter}
use Rattle.st_rules.specs.Calls.{is_parameter}
use Rattle.symbol_table.proofs.unit_names.routines.parameters.Given as goal

-- what was found, and what the rest has, is all
abbrev pub invariant-loop-variable : goal.invariant-loop-variable
invariant-loop-variable l = l.list ++ filter is_parameter (drop l.variable-index l.locals) ≡ filter is_parameter l.locals
