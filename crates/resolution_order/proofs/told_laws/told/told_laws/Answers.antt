use Rattle.resolution_order.proofs.told_laws.Telling.{told_laws}
use Rattle.resolution_order.proofs.told_laws.told.told_laws.Goals as goal

pub returns : goal.returns
returns c = told_laws
