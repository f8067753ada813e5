use Rattle.std.proofs.Common.{◌≡◌, ◌++◌, drop}
use Rattle.st_unit_rules.specs.declared_names.UnitNames.{globals_from}
use Rattle.symbol_table.specs.unit_names.Private.Known.{decls_of, names_of}
use Rattle.symbol_table.proofs.unit_names.globals.declared_globals.Given as goal

-- what was declared, and what the rest declares, is all
abbrev pub invariant-loop-decl : goal.invariant-loop-decl
invariant-loop-decl l =
    (l.list ++ globals_from (decls_of l.known) (names_of l.known) l.next.region l.next.function (drop l.decl-index l.decls)) ≡ globals_from (decls_of l.known) (names_of l.known) 0 0 l.decls
