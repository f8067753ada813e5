use Rattle.std.proofs.Common.{take}
use Rattle.check_signatures.specs.unit_signatures.Private.Structures.{DeclaresGroups}
use Rattle.check_signatures.proofs.unit_signatures.structures.structure.Given as goal

abbrev pub invariant-loop-declared : goal.invariant-loop-declared
invariant-loop-declared l = DeclaresGroups l.s (take l.declared-index l.groups) l.list.items
