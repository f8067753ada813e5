use Rattle.change_images.proofs.Examples.{one_range}
use Rattle.change_images.proofs.PlanFacts.{change_laws}
use Rattle.change_images.proofs.laws.change_laws.Goals as goal

pub returns : goal.returns
returns c = let example = one_range in change_laws
