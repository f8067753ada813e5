use Rattle.std.proofs.Common.{◌≡◌, ◌++◌, drop}
use Rattle.st_rules.specs.Classes.{classes_in}
use Rattle.section_rules.specs.Variables.{classes_of}
use Rattle.symbol_table.proofs.unit_tables.classes.list_classes.Given as goal

abbrev pub invariant-loop-decl : goal.invariant-loop-decl
invariant-loop-decl l = classes_of l.list.items ++ classes_in (drop l.decl-index l.decls) ≡ classes_in l.decls
