use Rattle.st_types.specs.Widening.{itself}
use Rattle.st_types.proofs.WideningLaws.{transitive, keeps, one_common}
use Rattle.st_types.proofs.widening.widening_laws.Goals as goal

pub returns-clause-reflexive : goal.returns-clause-reflexive
returns-clause-reflexive c = λ a. itself

pub returns-clause-transitive : goal.returns-clause-transitive
returns-clause-transitive c = transitive

pub returns-clause-keeps : goal.returns-clause-keeps
returns-clause-keeps c = keeps

pub returns-clause-one : goal.returns-clause-one
returns-clause-one c = one_common
