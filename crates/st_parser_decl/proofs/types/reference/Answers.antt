use Rattle.std.proofs.lemmas.Result.{err_from_is_err_and}
use Rattle.st_tree.specs.declared.terminal.Terminal.TheVariants as x
use Rattle.st_parser_decl.specs.Private.Rules as w
use Rattle.st_parser_decl.proofs.Steps as r
use Rattle.st_parser_decl.proofs.types.reference.Goals as goal

pub returns-in_err-sign-clause-err : goal.returns-in_err-sign-clause-err
unfolding w.reference
returns-in_err-sign-clause-err c = let p = err_from_is_err_and c.from_residual.result c.from_residual.ensures.1 in rw (p.1, p.2) (r.fails_here c.in_err-sign.ensures.err)

pub returns-in_err-of-clause-err : goal.returns-in_err-of-clause-err
unfolding w.reference
returns-in_err-of-clause-err c = let p = err_from_is_err_and c.from_residual-in_err-of.result c.from_residual-in_err-of.ensures.1 in rw (p.1, p.2) (r.fails_behind c.in_ok-sign.ensures.ok c.in_err-of.ensures.err)

pub returns-clause-ok : goal.returns-clause-ok
unfolding w.reference
returns-clause-ok c = r.parses_at x.RefTo _ c.line-note.ensures (r.behind c.in_ok-sign.ensures.ok c.in_ok-of.ensures.ok)
