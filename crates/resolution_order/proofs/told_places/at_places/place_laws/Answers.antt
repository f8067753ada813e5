use Rattle.resolution_order.proofs.told_places.PlaceLaws.{place_laws}
use Rattle.resolution_order.proofs.told_places.at_places.place_laws.Goals as goal

pub returns : goal.returns
returns c = place_laws
