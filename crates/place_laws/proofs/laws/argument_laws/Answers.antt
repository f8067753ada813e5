use Rattle.place_laws.proofs.Once.{given_once}
use Rattle.place_laws.proofs.laws.argument_laws.Goals as goal

pub returns : goal.returns
returns c = record { once = given_once }
