use Rattle.std.proofs.Common.{◌≡◌, ◌≤◌, length, take, None, sym, ◌∙◌, arith}
use Rattle.plc_text.specs.Text.{folded}
use Rattle.st_tree.specs.Terminal.{symbol_terminals, terminal_in}
use Rattle.st_lexer.proofs.PieceLaws.{two_token, one_token, no_token}
use Rattle.st_lexer.proofs.piece.symbol_at.Goals as goal
use Rattle.st_lexer.proofs.piece.symbol_at.Goals.{then-text-gt1+in_default, else-text-gt1}

pub returns-in-Some : goal.returns-in-Some
returns-in-Some c = two_token c.args.text.now c.requires c.in-Some.terminal (omega (arith, c.if-text-gt1.true)) (sym c.in-Some.is ∙ c.symbol.ensures)

pub returns-in-Some-symbol : goal.returns-in-Some-symbol
returns-in-Some-symbol c =
    let no_two : 2 ≤ length c.args.text.now → None ≡ terminal_in symbol_terminals (folded (take 2 c.args.text.now)) =
    λ room. elim c.if-text-gt1.branch [ then-text-gt1+in_default w ↦ sym w.in_default.is ∙ w.symbol.ensures | else-text-gt1 w ↦ absurd (omega (arith, w.if-text-gt1.false)) ] in
    one_token c.args.text.now c.requires c.in-Some-symbol.terminal no_two (sym c.in-Some-symbol.is ∙ c.symbol-2.ensures)

pub returns-in-None : goal.returns-in-None
returns-in-None c =
    let no_two : 2 ≤ length c.args.text.now → None ≡ terminal_in symbol_terminals (folded (take 2 c.args.text.now)) =
    λ room. elim c.if-text-gt1.branch [ then-text-gt1+in_default w ↦ sym w.in_default.is ∙ w.symbol.ensures | else-text-gt1 w ↦ absurd (omega (arith, w.if-text-gt1.false)) ] in
    no_token c.args.text.now c.requires no_two (sym c.in-None.is ∙ c.symbol-2.ensures)
