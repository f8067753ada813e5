use Rattle.std.proofs.Common.{sym}
use Rattle.st_lexer.proofs.LoopLaws.{closing_step}
use Rattle.st_lexer.proofs.reach.closing_len.Goals as goal

pub loop-i-preserved : goal.loop-i-preserved
loop-i-preserved c = closing_step _ _ _ _ c.loop-i-test.true (sym c.if-opens.ensures.value) c.loop-i.invariant
