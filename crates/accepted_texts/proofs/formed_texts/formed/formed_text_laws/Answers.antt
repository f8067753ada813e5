use Rattle.accepted_texts.proofs.formed_texts.Texts.{formed_text_laws}
use Rattle.accepted_texts.proofs.formed_texts.formed.formed_text_laws.Goals as goal

pub returns : goal.returns
returns c = formed_text_laws
