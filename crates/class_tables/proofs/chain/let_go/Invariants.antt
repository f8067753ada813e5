use Rattle.std.proofs.Common.{length}
use Rattle.class_tables.proofs.ClimbLaws.{LetGo}
use Rattle.class_tables.proofs.chain.let_go.Given as goal

abbrev pub invariant-loop-class : goal.invariant-loop-class
invariant-loop-class l = LetGo (length l.fn.held.items) l.classes l.held.items l.class-index
