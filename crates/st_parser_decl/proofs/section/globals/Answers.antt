use Rattle.std.proofs.Common.{refl}
use Rattle.std.proofs.lemmas.Result.{err_from_is_err_and}
use Rattle.st_tree.specs.declared.terminal.Terminal.TheVariants as x
use Rattle.st_parser_decl.specs.Private.Rules as w
use Rattle.st_parser_decl.proofs.Steps as r
use Rattle.st_parser_decl.proofs.section.globals.Goals as goal

pub returns-in_err-sign-clause-err : goal.returns-in_err-sign-clause-err
unfolding w.globals w.keep_words
returns-in_err-sign-clause-err c = let p = err_from_is_err_and c.from_residual.result c.from_residual.ensures.1 in rw (p.1, p.2) (r.fails_here c.in_err-sign.ensures.err)

pub returns-in_err-modifiers-clause-err : goal.returns-in_err-modifiers-clause-err
unfolding w.globals w.keep_words
returns-in_err-modifiers-clause-err c = let p = err_from_is_err_and c.from_residual-in_err-modifiers.result c.from_residual-in_err-modifiers.ensures.1 in rw (p.1, p.2) (r.fails_behind c.in_ok-sign.ensures.ok (r.fails_here c.in_err-modifiers.ensures.err))

pub returns-in_err-items-clause-err : goal.returns-in_err-items-clause-err
unfolding w.globals w.keep_words
returns-in_err-items-clause-err c = let p = err_from_is_err_and c.from_residual-in_err-items.result c.from_residual-in_err-items.ensures.1 in rw (p.1, p.2) (r.fails_behind c.in_ok-sign.ensures.ok (r.fails_behind c.in_ok-modifiers.ensures.ok (r.fails_here c.in_err-items.ensures.err)))

pub returns-in_err-sign-2-clause-err : goal.returns-in_err-sign-2-clause-err
unfolding w.globals w.keep_words
returns-in_err-sign-2-clause-err c = let p = err_from_is_err_and c.from_residual-in_err-sign-2.result c.from_residual-in_err-sign-2.ensures.1 in rw (p.1, p.2) (r.fails_behind c.in_ok-sign.ensures.ok (r.fails_behind c.in_ok-modifiers.ensures.ok (r.fails_behind c.in_ok-items.ensures.ok c.in_err-sign-2.ensures.err)))

pub returns-clause-ok : goal.returns-clause-ok
unfolding w.globals w.keep_words
returns-clause-ok c = r.as_phrase (λ h. (refl, h)) (r.parses_at x.VarGlobal _ c.line-line.ensures (r.behind c.in_ok-sign.ensures.ok (r.behind c.in_ok-modifiers.ensures.ok (r.behind c.in_ok-items.ensures.ok c.in_ok-sign-2.ensures.ok))))
