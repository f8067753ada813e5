use Rattle.st_change.proofs.Paths.{path_laws}
use Rattle.st_change.proofs.laws.path_laws.Goals as goal

pub returns : goal.returns
returns c = path_laws
