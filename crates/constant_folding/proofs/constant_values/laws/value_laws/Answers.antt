use Rattle.constant_folding.proofs.constant_values.ValueLaws.{value-laws}
use Rattle.constant_folding.proofs.constant_values.laws.value_laws.Goals as goal

pub returns : goal.returns
returns c = value-laws
