use Rattle.st_meaning.proofs.st_frame.Values.{good_laws}
use Rattle.st_meaning.proofs.st_frame.laws.good_laws.Goals as goal

pub returns : goal.returns
returns c = good_laws
