use Rattle.std.proofs.Common.{◌≡◌, ◌++◌, map, drop}
use Rattle.st_rules.specs.Interfaces.{interfaces_in}
use Rattle.st_unit_rules.specs.declared_names.UnitNames.{interface_declared}
use Rattle.symbol_table.specs.unit_names.Private.Known.{decls_of, names_of}
use Rattle.symbol_table.proofs.unit_names.routines.declared_interfaces.Given as goal

-- what was declared, and what the rest declares, is all
abbrev pub invariant-loop-decl : goal.invariant-loop-decl
invariant-loop-decl l =
    l.list ++ map (interface_declared (decls_of l.known) (names_of l.known)) (interfaces_in (drop l.decl-index l.decls)) ≡ map (interface_declared (decls_of l.known) (names_of l.known)) (interfaces_in l.decls)
