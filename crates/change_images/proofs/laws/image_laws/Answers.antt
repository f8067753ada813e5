use Rattle.change_images.proofs.CarriedImages.{image_laws}
use Rattle.change_images.proofs.laws.image_laws.Goals as goal

pub returns : goal.returns
returns c = image_laws
