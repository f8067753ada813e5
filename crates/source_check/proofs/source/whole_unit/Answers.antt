use Rattle.std.proofs.lemmas.Result.{err_from_is_err_and}
use Rattle.source_check.proofs.SourceLaws.{no_tokens}
use Rattle.source_check.proofs.source.whole_unit.Goals as goal

pub returns-in_err-found-clause-err : goal.returns-in_err-found-clause-err
returns-in_err-found-clause-err c = let p = err_from_is_err_and c.from_residual.result c.from_residual.ensures.1 in rw (p.1, p.2) (no_tokens _ _ _ c.in_err-found.ensures.long c.in_err-found.ensures.bad)
