use Rattle.accepted_texts.proofs.st_accepted.AcceptedLaws.{accepted_laws}
use Rattle.accepted_texts.proofs.st_accepted.laws.accepted_laws.Goals as goal

pub returns : goal.returns
returns c = accepted_laws
