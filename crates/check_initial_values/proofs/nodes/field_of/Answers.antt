use Rattle.std.proofs.Common.{refl}
use Rattle.check_initial_values.proofs.ValueLaws.{field_made}
use Rattle.check_initial_values.proofs.nodes.field_of.Goals as goal

pub returns : goal.returns
returns c = record { least = refl; field = field_made _ _ _ _ refl refl refl }
