use Rattle.st_change.proofs.Same.{same_laws}
use Rattle.st_change.proofs.laws.same_laws.Goals as goal

pub returns : goal.returns
returns c = same_laws
