use Rattle.program_laws.proofs.Whole.{accepted_layouts}
use Rattle.program_laws.proofs.laws.accepted_layouts.Goals as goal

pub returns : goal.returns
returns c = accepted_layouts
