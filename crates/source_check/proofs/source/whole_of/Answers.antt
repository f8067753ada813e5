use Rattle.std.proofs.lemmas.Result.{err_from_is_err_and}
use Rattle.source_check.proofs.SourceLaws.{not_parsed}
use Rattle.source_check.proofs.source.whole_of.Goals as goal

pub returns-in_err-own-clause-err : goal.returns-in_err-own-clause-err
returns-in_err-own-clause-err c = let p = err_from_is_err_and c.from_residual.result c.from_residual.ensures.1 in rw (p.1, p.2) (not_parsed _ _ _ c.requires.fits c.requires.tokens _ c.in_err-own.ensures.refused)
