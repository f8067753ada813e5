use Rattle.std.proofs.Common.{refl}
use Rattle.std.proofs.lemmas.Result.{err_from_is_err_and}
use Rattle.st_tree.specs.declared.terminal.Terminal.TheVariants as x
use Rattle.st_parser_stmt.specs.Private.Numbers as n
use Rattle.st_parser_decl.specs.Private.Rules as w
use Rattle.st_parser_decl.proofs.Steps as r
use Rattle.st_parser_decl.proofs.configuration.inner.Goals as goal

pub returns-in_err-placement-clause-err : goal.returns-in_err-placement-clause-err
unfolding w.inner w.resource n.same_terminal n.number
returns-in_err-placement-clause-err c = let p = err_from_is_err_and c.from_residual.result c.from_residual.ensures.1 in rw (p.1, p.2) (r.first_fails refl (r.begins w.resource x.Resource _ refl (c.is_next.ensures.yes c.if-is_next.true)) c.in_err-placement.ensures.err)

pub returns-then-is_next-clause-ok : goal.returns-then-is_next-clause-ok
unfolding w.inner w.resource n.same_terminal n.number
returns-then-is_next-clause-ok c = r.parses_first refl (r.begins w.resource x.Resource _ refl (c.is_next.ensures.yes c.if-is_next.true)) c.in_ok-placement.ensures.ok

pub returns-in_err-schedule-clause-err : goal.returns-in_err-schedule-clause-err
unfolding w.inner w.resource
returns-in_err-schedule-clause-err c = let p = err_from_is_err_and c.from_residual-in_err-schedule.result c.from_residual-in_err-schedule.ensures.1 in rw (p.1, p.2) (r.second_fails (r.begins_not w.resource x.Resource _ (λ t h. rw h refl) (c.is_next.ensures.not c.if-is_next.false)) c.in_err-schedule.ensures.err)

pub returns-clause-ok : goal.returns-clause-ok
unfolding w.inner w.resource
returns-clause-ok c = r.parses_second (r.begins_not w.resource x.Resource _ (λ t h. rw h refl) (c.is_next.ensures.not c.if-is_next.false)) c.in_ok-schedule.ensures.ok
