-- Which parameters count.
use Rattle.std.specs.Prelude.{Bool}
use Rattle.st_rules.specs.declared.names.DeclaredVariable.{DeclaredVariable}
use Rattle.st_rules.specs.Calls.{is_given, is_taken}
use Rattle.check_calls.specs.declared.matching.Way.{Way}
use Rattle.check_calls.specs.declared.matching.Way.TheVariants.{Given, Taken}

abbrev pub passes : Way → DeclaredVariable → Bool
passes Given v = is_given v
passes Taken v = is_taken v
