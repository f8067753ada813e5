-- What a name in a list means, as the code holds it.
use Rattle.st_unit_rules.specs.Initials.{Given, untold, not_found, a_field, a_member}
use Rattle.check_initial_values.specs.declared.fields.Given.{Given as Held}
use Rattle.check_initial_values.specs.declared.fields.Given.TheVariants as held

abbrev pub meant : Held → Given
meant held.Untold = untold
meant held.NotFound = not_found
meant (held.Field k f) = a_field k f.now.kind
meant (held.Member d v) = a_member d v.now
