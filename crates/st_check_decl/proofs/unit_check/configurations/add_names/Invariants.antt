use Rattle.std.proofs.Common.{◌≡◌, ◌++◌, map, drop}
use Rattle.st_unit_rules.specs.declaration_list.Written.{global_of}
use Rattle.st_check_decl.proofs.unit_check.configurations.add_names.Given as goal

abbrev pub invariant-loop-name : goal.invariant-loop-name
invariant-loop-name l = map global_of l.list.items ++ map global_of (drop l.name-index l.names) ≡ map global_of l.initial.list.items ++ map global_of l.names
