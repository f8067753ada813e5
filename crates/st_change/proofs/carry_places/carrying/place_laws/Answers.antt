use Rattle.st_change.proofs.carry_places.Places.{place_laws}
use Rattle.st_change.proofs.carry_places.carrying.place_laws.Goals as goal

pub returns : goal.returns
returns c = place_laws
