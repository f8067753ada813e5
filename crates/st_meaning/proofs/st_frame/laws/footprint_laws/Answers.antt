use Rattle.st_meaning.proofs.st_frame.Footprints.{footprint_laws}
use Rattle.st_meaning.proofs.st_frame.laws.footprint_laws.Goals as goal

pub returns : goal.returns
returns c = footprint_laws
