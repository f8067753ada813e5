use Rattle.st_values.proofs.ValueLaws.{value_laws, store_laws}
use Rattle.st_values.proofs.laws.value_laws.Goals as goal

pub returns : goal.returns
returns c = record { values = value_laws; stores = store_laws }
