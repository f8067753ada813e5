use Rattle.std.proofs.lemmas.Result.{err_from_is_err_and}
use Rattle.st_tree.specs.declared.terminal.Terminal.TheVariants as x
use Rattle.st_parser_decl.specs.Private.Rules as w
use Rattle.st_parser_decl.proofs.Steps as r
use Rattle.st_parser_decl.proofs.types.result_type.Goals as goal

pub returns-then-not-eat-clause-ok : goal.returns-then-not-eat-clause-ok
unfolding w.result
returns-then-not-eat-clause-ok c = rw (c.eat.ensures.no c.if-not-eat.true) (r.no_option x.Colon _ _ (c.eat.ensures.not c.if-not-eat.true))

pub returns-in_err-spec-clause-err : goal.returns-in_err-spec-clause-err
unfolding w.result
returns-in_err-spec-clause-err c = let p = err_from_is_err_and c.from_residual.result c.from_residual.ensures.1 in rw (p.1, p.2) (r.option_fails x.Colon (c.eat.ensures.yes c.if-not-eat.false) c.in_err-spec.ensures.err)

pub returns-clause-ok : goal.returns-clause-ok
unfolding w.result
returns-clause-ok c = r.parses_option x.Colon (c.eat.ensures.yes c.if-not-eat.false) c.in_ok-spec.ensures.ok
