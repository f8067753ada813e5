use Rattle.mem_layout.proofs.store_bytes.Initial.{initial_laws}
use Rattle.mem_layout.proofs.store_bytes.laws.initial_laws.Goals as goal

pub returns : goal.returns
returns c = initial_laws
