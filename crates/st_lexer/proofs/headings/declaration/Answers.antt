use Rattle.std.proofs.Common.{◌∙◌, sym, arith}
use Rattle.st_lexer.proofs.HeadingLaws.{found_here, quiet_step_mark}
use Rattle.st_lexer.proofs.headings.declaration.Goals as goal

pub returns-then-is_heading : goal.returns-then-is_heading
returns-then-is_heading c =
    found_here c.args.tokens.now c.tokens.place c.index-tokens-place.result c.in-Some.terminal _ c.tokens-test.true c.tokens.invariant.within c.index-tokens-place.is c.in-Some.is
    (sym c.is_heading.ensures ∙ c.if-is_heading.true) c.tokens.invariant.quiet c.name_at.ensures

pub tokens-preserved : goal.tokens-preserved
tokens-preserved c = record {
  within = omega (arith, c.tokens.invariant.within);
  quiet = quiet_step_mark c.args.tokens.now c.tokens.place c.index-tokens-place.result c.tokens-test.true c.tokens.invariant.within c.index-tokens-place.is c.in_default.is c.tokens.invariant.quiet;
}
