use Rattle.std.proofs.Common.{take}
use Rattle.check_signatures.specs.unit_signatures.Private.Structures.{AddsEntries}
use Rattle.check_signatures.proofs.unit_signatures.structures.add_entries.Given as goal

abbrev pub invariant-loop-declared : goal.invariant-loop-declared
invariant-loop-declared l = AddsEntries l.s l.initial.list.items l.list.items (take l.declared-index l.entries)
