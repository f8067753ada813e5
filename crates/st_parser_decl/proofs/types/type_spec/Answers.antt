use Rattle.std.proofs.lemmas.Result.{err_from_is_err_and}
use Rattle.st_parser_decl.specs.Private.Rules as w
use Rattle.st_parser_decl.proofs.Steps as r
use Rattle.st_parser_decl.proofs.types.type_spec.Goals as goal

pub returns-in_err-arrays-clause-err : goal.returns-in_err-arrays-clause-err
unfolding w.type_spec
returns-in_err-arrays-clause-err c = let p = err_from_is_err_and c.from_residual.result c.from_residual.ensures.1 in rw (p.1, p.2) (r.fails_here c.in_err-arrays.ensures.err)

pub returns-in_err-element-clause-err : goal.returns-in_err-element-clause-err
unfolding w.type_spec
returns-in_err-element-clause-err c = let p = err_from_is_err_and c.from_residual-in_err-element.result c.from_residual-in_err-element.ensures.1 in rw (p.1, p.2) (r.fails_behind c.in_ok-arrays.ensures.ok c.in_err-element.ensures.err)

pub returns-clause-ok : goal.returns-clause-ok
unfolding w.type_spec
returns-clause-ok c = r.behind c.in_ok-arrays.ensures.ok c.in_ok-element.ensures.ok
