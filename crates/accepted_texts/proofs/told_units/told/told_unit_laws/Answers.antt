use Rattle.accepted_texts.proofs.told_units.Good.{told_unit_laws}
use Rattle.accepted_texts.proofs.told_units.told.told_unit_laws.Goals as goal

pub returns : goal.returns
returns c = told_unit_laws
