use Rattle.std.proofs.Common.{◌∙◌, sym, arith}
use Rattle.st_lexer.proofs.LexLaws.{blank_step, feed_step, no_feed_step}
use Rattle.st_lexer.proofs.lexer.behind_blanks.Goals as goal
use Rattle.st_lexer.proofs.lexer.behind_blanks.Goals.{then-text-at-eq10, else-text-at-eq10}

pub blanks-preserved : goal.blanks-preserved
blanks-preserved c = record {
  within = omega (arith, c.blanks-test.true);
  counted = elim c.if-text-at-eq10.branch [
    | then-text-at-eq10 w ↦ w.line-is ∙ feed_step c.args.text.now c.blanks.at c.blanks.line c.blanks-test.true w.if-text-at-eq10.true c.blanks.invariant.counted
    | else-text-at-eq10 w ↦ w.line-is ∙ no_feed_step c.args.text.now c.blanks.at c.blanks.line c.blanks-test.true w.if-text-at-eq10.false c.blanks.invariant.counted
  ];
  passed = blank_step c.args.text.now c.args.place.at c.blanks.at c.blanks-test.true (sym c.is_blank.ensures ∙ c.if-is_blank.true) c.blanks.invariant.passed;
}
