use Rattle.std.proofs.Common.{◌≡◌, drop}
use Rattle.st_lexer.specs.Private.Reach as reach
use Rattle.st_lexer.proofs.reach.closing_len.Given as goal

abbrev pub invariant-loop-i : goal.invariant-loop-i
invariant-loop-i l = reach.closing_from l.mark l.i (drop l.i l.text) ≡ reach.closing_from l.mark 0 l.text
