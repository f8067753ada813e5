use Rattle.std.proofs.Common.{◌≡◌, ◌++◌, map, drop}
use Rattle.st_unit_rules.specs.declared_names.Declarations.{a_global}
use Rattle.st_unit_rules.specs.declaration_list.Listed.{declared_as}
use Rattle.st_unit_rules.specs.declaration_list.Written.{global_of}
use Rattle.st_unit_rules.proofs.declaration_list.listed.add_globals.Given as goal

abbrev pub invariant-loop-name : goal.invariant-loop-name
invariant-loop-name l = map declared_as l.list.items ++ map a_global (map global_of (drop l.name-index l.names)) ≡ map declared_as l.initial.list.items ++ map a_global (map global_of l.names)
