use Rattle.default_values.proofs.given_values.GivenLaws.{one_value, repeated_value}
use Rattle.default_values.proofs.given_values.given.value_of.Goals as goal

pub returns-in-One : goal.returns-in-One
returns-in-One c = one_value _ _ c.in-One.is

pub returns-in-Repeated : goal.returns-in-Repeated
returns-in-Repeated c = repeated_value _ _ _ _ c.in-Repeated.is
