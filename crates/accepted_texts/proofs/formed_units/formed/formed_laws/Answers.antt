use Rattle.accepted_texts.proofs.formed_units.Texts.{formed_laws}
use Rattle.accepted_texts.proofs.formed_units.formed.formed_laws.Goals as goal

pub returns : goal.returns
returns c = formed_laws
