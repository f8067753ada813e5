use Rattle.program_laws.proofs.Whole.{accepted_stores}
use Rattle.program_laws.proofs.laws.accepted_stores.Goals as goal

pub returns : goal.returns
returns c = accepted_stores
