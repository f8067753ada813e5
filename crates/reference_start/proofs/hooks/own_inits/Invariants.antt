use Rattle.reference_start.proofs.HookLaws.{InitsSoFar}
use Rattle.reference_start.proofs.hooks.own_inits.Given as goal

abbrev pub invariant-loop-c : goal.invariant-loop-c
invariant-loop-c l = InitsSoFar l.program l.c l.ids.items
