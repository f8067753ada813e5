-- What a call calls, as the code tells it.
use Rattle.st_rules.specs.Calls.{no_callee, not_callable, a_conversion, a_routine, a_body, base_body, no_base_body}
use Rattle.st_rules.specs.Calls as calls
use Rattle.check_calls.specs.declared.callee.Callee.{Callee}
use Rattle.check_calls.specs.declared.callee.Callee.TheVariants as code

abbrev pub called : Callee → calls.Callee
called code.Nothing = no_callee
called code.NotCallable = not_callable
called (code.Conversion a b) = a_conversion a b
called (code.Routine r) = a_routine r.now
called (code.Body c) = a_body c
called (code.BaseBody b) = base_body b
called code.NoBaseBody = no_base_body
