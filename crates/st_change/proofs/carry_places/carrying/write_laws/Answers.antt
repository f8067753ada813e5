use Rattle.st_change.proofs.carry_places.StoreWrites.{write_laws}
use Rattle.st_change.proofs.carry_places.carrying.write_laws.Goals as goal

pub returns : goal.returns
returns c = write_laws
