use Rattle.std.proofs.Common.{◌≡◌, ◌++◌, map, drop}
use Rattle.st_unit_rules.specs.declared_names.Declarations.{an_entry}
use Rattle.st_unit_rules.specs.declaration_list.Listed.{declared_as}
use Rattle.st_unit_rules.proofs.declaration_list.listed.add_entries.Given as goal

abbrev pub invariant-loop-entry : goal.invariant-loop-entry
invariant-loop-entry l = map declared_as l.list.items ++ map an_entry (drop l.entry-index l.entries) ≡ map declared_as l.initial.list.items ++ map an_entry l.entries
