use Rattle.std.proofs.Common.{map, ap, ◌∙◌}
use Rattle.st_lexer.specs.Private.Reach.{part_len}
use Rattle.st_lexer.proofs.LoopLaws.{parts_are}
use Rattle.st_lexer.proofs.reach.+parts_len.Goals as goal

pub returns-clause-value : goal.returns-clause-value
returns-clause-value t c =
    rw c.in-Some.ensures.cases.0
    (parts_are c.in-Some.unit.now.now (map (λ u. u.now) c.in-Some.smaller.now) c.args.text.now c.part_len-part.result c.underscore_len-gap.result c.parts_len-2.result c.with_head.result
    (c.part_len-part.ensures.value ∙ ap (λ unit. part_len unit c.args.text.now) c.as_bytes.ensures.value) c.if-part-eq0.false c.underscore_len-gap.ensures.value c.parts_len-2.ensures.value c.with_head.ensures)
