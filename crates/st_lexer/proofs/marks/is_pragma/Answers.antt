use Rattle.std.proofs.Common.{◌<◌, ◌∙◌, ap, sym, length, nat_eq, not, arith}
use Rattle.std.proofs.lemmas.Bool.{eqb-true, eqb-false}
use Rattle.std.proofs.lemmas.List.{take_all}
use Rattle.st_tree.specs.Pieces.{is_pragma}
use Rattle.st_lexer.specs.Private.Reach.{pragma_len}
use Rattle.st_lexer.proofs.RunLaws.{reaches}
use Rattle.st_lexer.proofs.FormLaws.{pragma_front, no_pragma_nil}
use Rattle.st_lexer.proofs.marks.is_pragma.Goals as goal

pub returns-then-not-is_empty : goal.returns-then-not-is_empty
returns-then-not-is_empty c =
    let text = c.args.text.now in
    let some : 0 < length text = omega (arith, eqb-false _ _ (sym c.is_empty.ensures ∙ c.if-not-is_empty.true)) in
    ap (λ n. nat_eq n (length text)) c.pragma_len.ensures
    ∙ reaches is_pragma text (pragma_len text) (length text) (pragma_front text) some (pragma_front text).within (omega arith)
    ∙ ap is_pragma (take_all (length text) text (omega arith))

pub returns-else-not-is_empty : goal.returns-else-not-is_empty
returns-else-not-is_empty c = ap not c.if-not-is_empty.false ∙ sym (no_pragma_nil c.args.text.now (eqb-true _ _ (sym c.is_empty.ensures ∙ c.if-not-is_empty.false)))
