use Rattle.std.proofs.Common.{refl}
use Rattle.std.proofs.lemmas.Result.{err_from_is_err_and}
use Rattle.st_tree.specs.declared.terminal.Terminal.TheVariants as x
use Rattle.st_parser_decl.specs.Private.Rules as w
use Rattle.st_parser_decl.proofs.Steps as r
use Rattle.st_parser_decl.proofs.configuration.setting_value.Goals as goal

pub returns-in_err-digits-clause-err : goal.returns-in_err-digits-clause-err
unfolding w.setting_value
returns-in_err-digits-clause-err c = let p = err_from_is_err_and c.from_residual.result c.from_residual.ensures.1 in rw (p.1, p.2) (r.first_fails refl (r.next_is x.Int _ (c.is_next.ensures.yes c.if-is_next.true)) c.in_err-digits.ensures.err)

pub returns-then-is_next-clause-ok : goal.returns-then-is_next-clause-ok
unfolding w.setting_value
returns-then-is_next-clause-ok c = r.parses_first refl (r.next_is x.Int _ (c.is_next.ensures.yes c.if-is_next.true)) c.in_ok-digits.ensures.ok

pub returns-in_err-duration-clause-err : goal.returns-in_err-duration-clause-err
unfolding w.setting_value
returns-in_err-duration-clause-err c = let p = err_from_is_err_and c.from_residual-in_err-duration.result c.from_residual-in_err-duration.ensures.1 in rw (p.1, p.2) (r.second_fails (r.next_not x.Int _ (c.is_next.ensures.not c.if-is_next.false)) c.in_err-duration.ensures.err)

pub returns-clause-ok : goal.returns-clause-ok
unfolding w.setting_value
returns-clause-ok c = r.parses_second (r.next_not x.Int _ (c.is_next.ensures.not c.if-is_next.false)) c.in_ok-duration.ensures.ok
