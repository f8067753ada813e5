use Rattle.st_values.proofs.ShapeLaws.{shape_laws}
use Rattle.st_values.proofs.laws.shape_laws.Goals as goal

pub returns : goal.returns
returns c = shape_laws
