use Rattle.type_resolution.specs.told_locals.Private.Telling.{IsTold}
use Rattle.type_resolution.proofs.told_locals.telling.tell_each.Given as goal

abbrev pub invariant-loop-place : goal.invariant-loop-place
invariant-loop-place l = IsTold l.around l.of l.told
