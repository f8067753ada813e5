use Rattle.constant_laws.proofs.Whole.{constant_laws}
use Rattle.constant_laws.proofs.laws.constant_laws.Goals as goal

pub returns : goal.returns
returns c = constant_laws
