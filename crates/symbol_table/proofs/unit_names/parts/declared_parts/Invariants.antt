use Rattle.std.proofs.Common.{◌≡◌, ◌++◌, map, drop}
use Rattle.st_unit_rules.specs.declared_names.Declarations.{entries_in}
use Rattle.st_unit_rules.specs.declared_names.UnitNames.{parts_declared}
use Rattle.symbol_table.specs.unit_names.Private.Known.{decls_of, names_of}
use Rattle.symbol_table.proofs.unit_names.parts.declared_parts.Given as goal

-- what was found, and what the rest has, is all
abbrev pub invariant-loop-decl : goal.invariant-loop-decl
invariant-loop-decl l =
    l.list ++ map (λ t. parts_declared (decls_of l.known) (names_of l.known) t.body) (entries_in (drop l.decl-index l.decls)) ≡ map (λ t. parts_declared (decls_of l.known) (names_of l.known) t.body) (entries_in l.decls)
