use Rattle.resolution_order.proofs.told_laws.Telling.{telling_laws}
use Rattle.resolution_order.proofs.told_laws.told.telling_laws.Goals as goal

pub returns : goal.returns
returns c = telling_laws
