-- What is found out about an initial value: the least rule that it breaks, and its typed tree.
use Rattle.std.specs.Prelude.{◌≡◌, ℕ, Option}
use Rattle.st_types.specs.declared.st_type.StType.{StType}
use Rattle.st_tree.specs.Initial.{Initial, initial_of}
use Rattle.st_rules.specs.Faults.{least}
use Rattle.st_rules.specs.Scope.{Scope}
use Rattle.st_unit_rules.specs.Initials.{initial_faults, typed_initial}
use Rattle.check_initial_values.specs.declared.found.CheckedInitial.{CheckedInitial}

-- where a value of this type stands, or where the type cannot be told
pub record ChecksInitial (c : CheckedInitial) (s : Scope) (t : Option StType) (i : Initial ℕ) : Type 0 where
  pub least : c.least ≡ least (initial_faults s t i)
  pub tree : initial_of c.tree ≡ typed_initial s t i
