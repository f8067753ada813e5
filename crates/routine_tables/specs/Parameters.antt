-- The code's parameters as the meaning's.
use Rattle.std.specs.Prelude.{List, map}
use Rattle.routine_tables.specs.declared.parameters.Parameter as code
use Rattle.routine_tables.specs.declared.parameters.Recipient.{Recipient}
use Rattle.routine_tables.specs.declared.parameters.Recipient.TheVariants as to
use Rattle.st_values.specs.Program as plain

abbrev pub recipient_of : Recipient → plain.Recipient
recipient_of (to.Local n) = plain.to_local n
recipient_of (to.Variable k) = plain.to_variable k

abbrev pub parameter_of : code.Parameter → plain.Parameter
parameter_of q = record { sort = q.sort; to = recipient_of q.to }

abbrev pub parameters_of : List code.Parameter → List plain.Parameter
parameters_of qs = map parameter_of qs
