use Rattle.std.proofs.Common.{◌∙◌, sym, arith}
use Rattle.std.proofs.lemmas.Bool.{eqb-true, eqb-false}
use Rattle.st_tree.proofs.TerminalLaws.{picked_for, none_for, none_for_nil}
use Rattle.st_tree.proofs.terminal.terminal_by_letter.Goals as goal

pub returns-then-is_empty : goal.returns-then-is_empty
returns-then-is_empty c = none_for_nil _ _ c.requires (eqb-true _ _ (sym c.is_empty.ensures ∙ c.if-is_empty.true))

pub returns-then-not-is_ascii_uppercase : goal.returns-then-not-is_ascii_uppercase
returns-then-not-is_ascii_uppercase c = none_for _ _ _ c.requires (omega (arith, eqb-false _ _ (sym c.is_empty.ensures ∙ c.if-is_empty.false))) c.to_ascii_uppercase-letter.ensures.value (sym c.is_ascii_uppercase.ensures.value ∙ c.if-not-is_ascii_uppercase.true)

pub returns : goal.returns
returns c = c.terminal_in.ensures ∙ picked_for _ _ _ _ c.requires (omega (arith, eqb-false _ _ (sym c.is_empty.ensures ∙ c.if-is_empty.false))) c.to_ascii_uppercase-letter.ensures.value (sym c.is_ascii_uppercase.ensures.value ∙ c.if-not-is_ascii_uppercase.false)
