use Rattle.resolution_order.proofs.told_laws.LocalTelling.{local_laws}
use Rattle.resolution_order.proofs.told_laws.told.local_laws.Goals as goal

pub returns : goal.returns
returns c = local_laws
