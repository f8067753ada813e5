use Rattle.std.proofs.lemmas.Result.{err_from_is_err_and}
use Rattle.st_tree.specs.declared.terminal.Terminal.TheVariants as x
use Rattle.st_parser_decl.specs.Private.Rules as w
use Rattle.st_parser_decl.proofs.Steps as r
use Rattle.st_parser_decl.proofs.leaf.used.Goals as goal

pub returns-in_err-text-clause-err : goal.returns-in_err-text-clause-err
unfolding w.word
returns-in_err-text-clause-err c = let p = err_from_is_err_and c.from_residual.result c.from_residual.ensures.1 in rw (p.1, p.2) c.in_err-text.ensures.err

pub returns-clause-ok : goal.returns-clause-ok
unfolding w.word
returns-clause-ok c = r.parses_text_at x.Word _ _ c.line-note.ensures c.in_ok-text.ensures.ok
