use Rattle.std.proofs.Common.{◌∙◌, sym, ap, length, drop, arith}
use Rattle.plc_text.specs.Lines.{line_of}
use Rattle.plc_text.specs.Words.{begins, is_blank}
use Rattle.st_lexer.proofs.LexLaws.{passed_on, further, token_after, same_line}
use Rattle.st_lexer.proofs.lexer.next_from.Goals as goal

pub pieces-smaller : goal.pieces-smaller
pieces-smaller c =
    further c.args.text.now c.as_bytes-bytes.result.now c.pieces.start.at c.in-Passed.len c.behind.result.at c.behind_blanks-start-in-Passed.result.at c.as_bytes-bytes.ensures.value
    (omega (arith, c.pieces-test.true, ap length c.as_bytes-bytes.ensures.value)) c.in-Passed.ensures c.behind.ensures.at c.behind_blanks-start-in-Passed.ensures.passed c.behind_blanks-start-in-Passed.ensures.within

pub pieces-preserved : goal.pieces-preserved
pieces-preserved c = record {
  within = omega (arith, c.behind_blanks-start-in-Passed.ensures.within, ap length c.as_bytes-bytes.ensures.value);
  counted = c.behind_blanks-start-in-Passed.ensures.counted ∙ ap (λ t. line_of t c.behind_blanks-start-in-Passed.result.at) c.as_bytes-bytes.ensures.value;
  passed = passed_on c.args.text.now c.as_bytes-bytes.result.now c.args.place.at c.pieces.start.at c.in-Passed.len c.behind.result.at c.behind_blanks-start-in-Passed.result.at c.as_bytes-bytes.ensures.value
      c.pieces.invariant.within c.pieces.invariant.passed c.in-Passed.ensures c.behind.ensures.at c.behind_blanks-start-in-Passed.ensures.passed;
  inked = ap (λ t. begins is_blank (drop c.behind_blanks-start-in-Passed.result.at t)) (sym c.as_bytes-bytes.ensures.value) ∙ c.behind_blanks-start-in-Passed.ensures.ends;
}

pub returns-in-Mark-clause-given : goal.returns-in-Mark-clause-given
returns-in-Mark-clause-given c =
    rw c.behind-in-Mark.ensures.at
    (token_after c.args.text.now c.args.place.at c.pieces.start.at _ _ c.pieces.invariant.passed c.token_at.ensures.lexed, sym c.token_at.ensures.end)

pub returns-in-Token-clause-counted : goal.returns-in-Token-clause-counted
returns-in-Token-clause-counted c = same_line c.args.text.now c.as_bytes-bytes.result.now c.pieces.start.at c.in-Token.len c.pieces.start.line c.as_bytes-bytes.ensures.value c.pieces.invariant.counted c.in-Token.ensures.1

pub returns-in-Token-clause-given : goal.returns-in-Token-clause-given
returns-in-Token-clause-given c = (token_after c.args.text.now c.args.place.at c.pieces.start.at _ _ c.pieces.invariant.passed c.token_at-in-Token.ensures.lexed, sym c.token_at-in-Token.ensures.end)
