use Rattle.st_rules.proofs.KindLaws.{reaches_decides, common_has, common_found}
use Rattle.st_rules.proofs.widening.widening_laws.Goals as goal

pub returns-clause-reaching : goal.returns-clause-reaching
returns-clause-reaching c = reaches_decides

pub returns-clause-common : goal.returns-clause-common
returns-clause-common c = λ a b k. (common_has a b k, common_found a b k)
