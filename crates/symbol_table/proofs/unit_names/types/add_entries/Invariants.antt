use Rattle.symbol_table.specs.unit_names.Private.Known.{decls_of, names_of}
use Rattle.symbol_table.proofs.unit_names.TypeLaws.{EntriesTo}
use Rattle.symbol_table.proofs.unit_names.types.add_entries.Given as goal

abbrev pub invariant-loop-entry : goal.invariant-loop-entry
invariant-loop-entry l = EntriesTo (decls_of l.known) (names_of l.known) l.entries l.fn.list l.list l.first l.number l.entry-index
