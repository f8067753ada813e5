use Rattle.std.proofs.Common.{refl, ◌∙◌}
use Rattle.std.proofs.lemmas.Result.{err_from_is_err_and}
use Rattle.st_parser_decl.specs.Private.Rules as w
use Rattle.st_parser_decl.proofs.SectionSteps as t
use Rattle.st_parser_decl.proofs.Steps as r
use Rattle.st_parser_decl.proofs.section.vars.Goals as goal

pub returns-in-None-clause-ok : goal.returns-in-None-clause-ok
returns-in-None-clause-ok c = (refl, t.vars_begin c.args.tokens.now ∙ c.in-None.ensures.none)

pub returns-in_err-modifiers-clause-err : goal.returns-in_err-modifiers-clause-err
unfolding w.vars w.section_words
returns-in_err-modifiers-clause-err c = let p = err_from_is_err_and c.from_residual.result c.from_residual.ensures.1 in rw (p.1, p.2) (r.fails_inside (t.vars_next _ _ c.in-Some.ensures.some.0 c.in-Some.ensures.some.1) (r.fails_behind (t.sort_parses _ _ _ c.in-Some.ensures.some.0 c.in-Some.ensures.some.1 c.bump.ensures) (r.fails_here c.in_err-modifiers.ensures.err)))

pub returns-in_err-items-clause-err : goal.returns-in_err-items-clause-err
unfolding w.vars w.section_words
returns-in_err-items-clause-err c = let p = err_from_is_err_and c.from_residual-in_err-items.result c.from_residual-in_err-items.ensures.1 in rw (p.1, p.2) (r.fails_inside (t.vars_next _ _ c.in-Some.ensures.some.0 c.in-Some.ensures.some.1) (r.fails_behind (t.sort_parses _ _ _ c.in-Some.ensures.some.0 c.in-Some.ensures.some.1 c.bump.ensures) (r.fails_behind c.in_ok-modifiers.ensures.ok (r.fails_here c.in_err-items.ensures.err))))

pub returns-in_err-sign-clause-err : goal.returns-in_err-sign-clause-err
unfolding w.vars w.section_words
returns-in_err-sign-clause-err c = let p = err_from_is_err_and c.from_residual-in_err-sign.result c.from_residual-in_err-sign.ensures.1 in rw (p.1, p.2) (r.fails_inside (t.vars_next _ _ c.in-Some.ensures.some.0 c.in-Some.ensures.some.1) (r.fails_behind (t.sort_parses _ _ _ c.in-Some.ensures.some.0 c.in-Some.ensures.some.1 c.bump.ensures) (r.fails_behind c.in_ok-modifiers.ensures.ok (r.fails_behind c.in_ok-items.ensures.ok c.in_err-sign.ensures.err))))

pub returns-clause-ok : goal.returns-clause-ok
unfolding w.vars w.section_words
returns-clause-ok c = (t.vars_next _ _ c.in-Some.ensures.some.0 c.in-Some.ensures.some.1, r.as_phrase (λ h. (c.in-Some.ensures.some.0, h)) (r.parses_at _ _ c.line-line.ensures (r.behind (t.sort_parses _ _ _ c.in-Some.ensures.some.0 c.in-Some.ensures.some.1 c.bump.ensures) (r.behind c.in_ok-modifiers.ensures.ok (r.behind c.in_ok-items.ensures.ok c.in_ok-sign.ensures.ok)))))
