use Rattle.std.proofs.Common.{◌≡◌, ◌+◌, ◌-◌, ◌∙◌, ap, take, drop, arith}
use Rattle.st_lexer.specs.Private.Piece.{line_feeds}
use Rattle.st_lexer.proofs.LexLaws.{line_step}
use Rattle.st_lexer.proofs.lexer.behind.Goals as goal

pub returns-clause-counted : goal.returns-clause-counted
returns-clause-counted c =
    let e : c.args.place.at + c.args.len - c.args.place.at ≡ c.args.len = omega arith in
    line_step c.args.text.now c.args.place.at c.args.len c.args.place.line c.line_feeds.result c.requires.counted
    (c.line_feeds.ensures ∙ ap (λ k. line_feeds (take k (drop c.args.place.at c.args.text.now))) e)
