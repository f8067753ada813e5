use Rattle.st_change.proofs.Settled.{carry_laws}
use Rattle.st_change.proofs.laws.carry_laws.Goals as goal

pub returns : goal.returns
returns c = carry_laws
