use Rattle.promise_laws.proofs.Whole.{promise_laws}
use Rattle.promise_laws.proofs.laws.promise_laws.Goals as goal

pub returns : goal.returns
returns c = promise_laws
