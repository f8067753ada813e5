use Rattle.std.proofs.Common.{refl}
use Rattle.std.proofs.lemmas.Result.{err_from_is_err_and}
use Rattle.st_tree.specs.declared.terminal.Terminal.TheVariants as x
use Rattle.st_parser_stmt.specs.Private.Numbers as n
use Rattle.st_parser_decl.specs.Private.Rules as w
use Rattle.st_parser_decl.proofs.Steps as r
use Rattle.st_parser_decl.proofs.class.member.Goals as goal

pub returns-in_err-method-clause-err : goal.returns-in_err-method-clause-err
unfolding w.member w.method w.vars n.same_terminal n.number
returns-in_err-method-clause-err c = let p = err_from_is_err_and c.from_residual.result c.from_residual.ensures.1 in rw (p.1, p.2) (r.fails_inside (r.begins w.member x.Method _ refl (c.is_next.ensures.yes c.if-is_next.true)) (r.first_fails refl (r.begins w.method x.Method _ refl (c.is_next.ensures.yes c.if-is_next.true)) c.in_err-method.ensures.err))

pub returns-then-is_next-clause-ok : goal.returns-then-is_next-clause-ok
unfolding w.member w.method w.vars n.same_terminal n.number
returns-then-is_next-clause-ok c = (r.begins w.member x.Method _ refl (c.is_next.ensures.yes c.if-is_next.true), r.parses_first refl (r.begins w.method x.Method _ refl (c.is_next.ensures.yes c.if-is_next.true)) c.in_ok-method.ensures.ok)

pub returns-in_err-section-clause-err : goal.returns-in_err-section-clause-err
unfolding w.member w.method
returns-in_err-section-clause-err c = let p = err_from_is_err_and c.from_residual-in_err-section.result c.from_residual-in_err-section.ensures.1 in rw (p.1, p.2) (r.second_inside (r.begins_not w.method x.Method _ (λ t h. rw h refl) (c.is_next.ensures.not c.if-is_next.false)) c.in_err-section.ensures.err)

pub returns-in-Some-clause-ok : goal.returns-in-Some-clause-ok
unfolding w.member w.method
returns-in-Some-clause-ok c = let h = rw c.in-Some.is at c.in_ok-section.ensures.ok in r.perhaps_second (r.begins_not w.method x.Method _ (λ t h. rw h refl) (c.is_next.ensures.not c.if-is_next.false)) h

pub returns-in-None-clause-ok : goal.returns-in-None-clause-ok
unfolding w.member w.method
returns-in-None-clause-ok c = let h = rw c.in-None.is at c.in_ok-section.ensures.ok in r.perhaps_none w.method w.vars (r.begins_not w.method x.Method _ (λ t h. rw h refl) (c.is_next.ensures.not c.if-is_next.false)) h
