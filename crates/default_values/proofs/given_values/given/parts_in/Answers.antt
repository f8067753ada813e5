use Rattle.default_values.proofs.given_values.GivenLaws.{array_parts, value_parts, fields_parts}
use Rattle.default_values.proofs.given_values.given.parts_in.Goals as goal

pub returns-in-Array : goal.returns-in-Array
returns-in-Array c = array_parts _ _ _ _ c.in-Array.is c.as_slice.ensures

pub returns-in-Value : goal.returns-in-Value
returns-in-Value c = value_parts _ _ c.in-Value.is

pub returns-in-Fields : goal.returns-in-Fields
returns-in-Fields c = fields_parts _ _ _ c.in-Fields.is
