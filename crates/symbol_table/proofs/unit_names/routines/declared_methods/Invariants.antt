use Rattle.std.proofs.Common.{◌≡◌, ◌++◌, map, drop}
use Rattle.st_rules.specs.Classes.{methods_in}
use Rattle.st_unit_rules.specs.declared_names.UnitNames.{method_declared}
use Rattle.symbol_table.specs.unit_names.Private.Known.{decls_of, names_of}
use Rattle.symbol_table.proofs.unit_names.routines.declared_methods.Given as goal

-- what was declared, and what the rest declares, is all
abbrev pub invariant-loop-member : goal.invariant-loop-member
invariant-loop-member l =
    l.list ++ map (method_declared (decls_of l.known) (names_of l.known) l.class) (methods_in (drop l.member-index l.members)) ≡ map (method_declared (decls_of l.known) (names_of l.known) l.class) (methods_in l.members)
