use Rattle.initial_laws.proofs.Whole.{initial_laws}
use Rattle.initial_laws.proofs.laws.initial_laws.Goals as goal

pub returns : goal.returns
returns c = initial_laws
