-- What is found out about an initial value that may be given.
use Rattle.std.specs.Prelude.{◌≡◌, ℕ, Option, option_map}
use Rattle.st_types.specs.declared.st_type.StType.{StType}
use Rattle.st_tree.specs.Initial.{Initial, initial_of}
use Rattle.st_rules.specs.Faults.{least}
use Rattle.st_rules.specs.Scope.{Scope}
use Rattle.st_unit_rules.specs.Initials.{typed_initial}
use Rattle.st_unit_rules.specs.VariableRules.{initial_if_given}
use Rattle.check_declared_variables.specs.declared.variable_rules.given.CheckedGiven.{CheckedGiven}

pub record ChecksGiven (c : CheckedGiven) (s : Scope) (t : Option StType) (i : Option (Initial ℕ)) : Type 0 where
  pub least : c.least ≡ least (initial_if_given s t i)
  pub initial : option_map initial_of c.initial ≡ option_map (typed_initial s t) i
