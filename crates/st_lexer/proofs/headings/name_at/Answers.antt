use Rattle.std.proofs.Common.{◌∙◌, sym}
use Rattle.st_lexer.proofs.HeadingLaws.{name_past_mark, name_past_modifier}
use Rattle.st_lexer.proofs.headings.name_at.Goals as goal
use Rattle.st_lexer.proofs.headings.name_at.Goals.{in-Some+else-not-is_modifier, in_default}

pub loop-token-preserved : goal.loop-token-preserved
loop-token-preserved c = elim c.match-token.branch [
  | in-Some+else-not-is_modifier w ↦ name_past_modifier c.args.tokens.now c.loop-token.token-index c.token-item.result w.in-Some.terminal c.loop-token-test.true c.token-item.is w.in-Some.is (sym w.is_modifier.ensures ∙ w.if-not-is_modifier.false) ∙ c.loop-token.invariant
  | in_default w ↦ name_past_mark c.args.tokens.now c.loop-token.token-index c.token-item.result c.loop-token-test.true c.token-item.is w.in_default.is ∙ c.loop-token.invariant
]
