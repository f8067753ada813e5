use Rattle.program_laws.proofs.Whole.{accepted_paths}
use Rattle.program_laws.proofs.laws.accepted_paths.Goals as goal

pub returns : goal.returns
returns c = accepted_paths
