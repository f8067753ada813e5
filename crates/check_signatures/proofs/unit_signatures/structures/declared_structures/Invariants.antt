use Rattle.std.proofs.Common.{[], take}
use Rattle.st_unit_rules.specs.declared_names.Declarations.{entries_in}
use Rattle.check_signatures.specs.unit_signatures.Private.Structures.{AddsEntries}
use Rattle.check_signatures.proofs.unit_signatures.structures.declared_structures.Given as goal

abbrev pub invariant-loop-decl : goal.invariant-loop-decl
invariant-loop-decl l = AddsEntries l.s [] l.list.items (entries_in (take l.decl-index l.decls))
