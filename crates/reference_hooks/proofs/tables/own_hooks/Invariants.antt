use Rattle.reference_hooks.specs.Private.Hooks.{when_of}
use Rattle.reference_hooks.proofs.HookLaws.{OwnSoFar}
use Rattle.reference_hooks.proofs.tables.own_hooks.Given as goal

abbrev pub invariant-loop-c : goal.invariant-loop-c
invariant-loop-c l = OwnSoFar (when_of l.when) l.program l.c l.ids.items
