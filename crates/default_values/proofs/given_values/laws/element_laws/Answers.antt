use Rattle.default_values.proofs.given_values.PartLaws.{elements_are}
use Rattle.default_values.proofs.given_values.laws.element_laws.Goals as goal

pub returns : goal.returns
returns c = elements_are
