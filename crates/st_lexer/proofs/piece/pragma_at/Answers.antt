use Rattle.std.proofs.Common.{◌<◌, sym, ◌∙◌, arith}
use Rattle.std.proofs.lemmas.List.{length-take-le}
use Rattle.st_lexer.specs.Private.Reach.{pragma_len}
use Rattle.st_lexer.proofs.FormLaws.{pragma_front}
use Rattle.st_lexer.proofs.PieceLaws.{pragma_bad, pragma_passed, mark_token}
use Rattle.st_lexer.proofs.piece.pragma_at.Goals as goal

pub returns-then-len-eq0 : goal.returns-then-len-eq0
returns-then-len-eq0 c = pragma_bad c.args.text.now c.requires (sym c.pragma_len-len.ensures ∙ c.if-len-eq0.true)

pub slice_bounds-is_mark-end : goal.slice_bounds-is_mark-end
slice_bounds-is_mark-end c = sym (length-take-le _ c.args.text.now (omega (arith, c.pragma_len-len.ensures, (pragma_front c.args.text.now).within)))

pub is_mark-requires : goal.is_mark-requires
is_mark-requires c =
    let some : 0 < pragma_len c.args.text.now = omega (arith, c.pragma_len-len.ensures, c.if-len-eq0.false) in
    rw c.pragma_len-len.ensures ((pragma_front c.args.text.now).passes some)

pub returns-then-is_mark : goal.returns-then-is_mark
returns-then-is_mark c =
    let some : 0 < pragma_len c.args.text.now = omega (arith, c.pragma_len-len.ensures, c.if-len-eq0.false) in
    rw c.pragma_len-len.ensures (mark_token c.args.text.now c.requires some (rw c.pragma_len-len.ensures at (sym c.is_mark.ensures ∙ c.if-is_mark.true)))

pub returns-else-is_mark : goal.returns-else-is_mark
returns-else-is_mark c =
    let some : 0 < pragma_len c.args.text.now = omega (arith, c.pragma_len-len.ensures, c.if-len-eq0.false) in
    rw c.pragma_len-len.ensures (pragma_passed c.args.text.now c.requires some (rw c.pragma_len-len.ensures at (sym c.is_mark.ensures ∙ c.if-is_mark.false)))
