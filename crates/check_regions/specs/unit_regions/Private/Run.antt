-- Whether a region is an instance that runs with a task.
use Rattle.std.specs.Prelude.{ℕ, Bool, false, List}
use Rattle.st_unit_rules.specs.declared_names.Declarations.{Region, of_global, of_instance}
use Rattle.st_unit_rules.specs.ConfigurationRules.{runs_in}

abbrev pub is_run : List ℕ → Region → Bool
is_run task (of_global w) = false
is_run task (of_instance x) = runs_in task x
