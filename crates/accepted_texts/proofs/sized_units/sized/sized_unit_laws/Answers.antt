use Rattle.accepted_texts.proofs.sized_units.Whole.{sized_unit_laws}
use Rattle.accepted_texts.proofs.sized_units.sized.sized_unit_laws.Goals as goal

pub returns : goal.returns
returns c = sized_unit_laws
