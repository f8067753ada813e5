use Rattle.default_values.proofs.initial_worths.WalkLaws.{value_number, array_number, fields_number}
use Rattle.default_values.proofs.initial_worths.walk.number_in.Goals as goal

pub returns-in_ok-value-in-Value : goal.returns-in_ok-value-in-Value
returns-in_ok-value-in-Value g c = λ u e. value_number u e _ _ _ _ _ c.in-Value.is c.in_ok-value-in-Value.ensures

pub returns-in-Array : goal.returns-in-Array
returns-in-Array g c = λ u e. array_number u e _ _ _ _ _ c.in-Array.is

pub returns-in-Fields : goal.returns-in-Fields
returns-in-Fields g c = λ u e. fields_number u e _ _ _ _ _ c.in-Fields.is
