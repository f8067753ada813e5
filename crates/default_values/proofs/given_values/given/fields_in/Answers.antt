use Rattle.default_values.proofs.given_values.GivenLaws.{fields_fields, value_fields, array_fields}
use Rattle.default_values.proofs.given_values.given.fields_in.Goals as goal

pub returns-in-Fields : goal.returns-in-Fields
returns-in-Fields c = fields_fields _ _ _ _ c.in-Fields.is c.as_slice.ensures

pub returns-in-Value : goal.returns-in-Value
returns-in-Value c = value_fields _ _ c.in-Value.is

pub returns-in-Array : goal.returns-in-Array
returns-in-Array c = array_fields _ _ _ c.in-Array.is
