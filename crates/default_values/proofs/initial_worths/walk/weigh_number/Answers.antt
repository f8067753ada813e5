use Rattle.default_values.proofs.initial_worths.WalkLaws.{number_found}
use Rattle.default_values.proofs.initial_worths.walk.weigh_number.Goals as goal

pub returns : goal.returns
returns g c = number_found _ _ _ _ _ _ _ c.in_ok-value.ensures c.in_ok-found.ensures
