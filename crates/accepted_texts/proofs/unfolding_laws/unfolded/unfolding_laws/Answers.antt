use Rattle.accepted_texts.proofs.unfolding_laws.UnfoldingLaws.{unfolding_laws}
use Rattle.accepted_texts.proofs.unfolding_laws.unfolded.unfolding_laws.Goals as goal

pub returns : goal.returns
returns c = unfolding_laws
