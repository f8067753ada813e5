use Rattle.program_laws.proofs.Whole.{accepted_cycles}
use Rattle.program_laws.proofs.laws.accepted_cycles.Goals as goal

pub returns : goal.returns
returns c = accepted_cycles
