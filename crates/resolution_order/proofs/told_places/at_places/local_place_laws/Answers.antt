use Rattle.resolution_order.proofs.told_places.PlaceLaws.{local_place_laws}
use Rattle.resolution_order.proofs.told_places.at_places.local_place_laws.Goals as goal

pub returns : goal.returns
returns c = local_place_laws
