use Rattle.std.proofs.Common.{map, drop}
use Rattle.st_unit_rules.specs.declared_names.Declarations.{an_entry}
use Rattle.st_check_decl.proofs.unit_check.ThroughLaws.{Went}
use Rattle.st_check_decl.proofs.unit_check.declarations.pass_entries.Given as goal

abbrev pub invariant-loop-entry : goal.invariant-loop-entry
invariant-loop-entry l = Went l.side.tables.now.decls l.initial.x l.x (map an_entry l.entries) (map an_entry (drop l.entry-index l.entries))
