use Rattle.std.proofs.Common.{◌≡◌, ◌++◌, map, take}
use Rattle.st_unit_rules.specs.declared_names.UnitNames.{parts_declared}
use Rattle.symbol_table.specs.unit_names.Private.Known.{decls_of, names_of}
use Rattle.symbol_table.proofs.unit_names.parts.add_entry_parts.Given as goal

abbrev pub invariant-loop-entry : goal.invariant-loop-entry
invariant-loop-entry l = l.list ≡ l.fn.list ++ map (λ t. parts_declared (decls_of l.known) (names_of l.known) t.body) (take l.entry-index l.entries)
