use Rattle.std.proofs.Common.{sym, ◌∙◌}
use Rattle.st_parser_decl.proofs.PlaceLaws as l
use Rattle.st_parser_decl.proofs.place.line_at.Goals as goal

pub returns-then-place-lexemes : goal.returns-then-place-lexemes
returns-then-place-lexemes c = l.line_read c.args.text.now c.args.lexemes.now c.args.place c.line.result c.if-place-lexemes.true (rw c.new.ensures at c.line.ensures)

pub returns-else-place-lexemes : goal.returns-else-place-lexemes
returns-else-place-lexemes c = c.line_of.ensures ∙ sym (l.line_past c.args.text.now c.args.lexemes.now c.args.place c.if-place-lexemes.false)
