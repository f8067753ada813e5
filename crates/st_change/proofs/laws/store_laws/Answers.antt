use Rattle.st_change.proofs.Stores.{store_laws}
use Rattle.st_change.proofs.laws.store_laws.Goals as goal

pub returns : goal.returns
returns c = store_laws
