-- What is found on an instance, if anything is.
use Rattle.std.specs.Prelude.{ℕ, Option, Some}
use Rattle.st_tree.specs.declared.path.Path.{Path}
use Rattle.st_values.specs.Program.{Routine, Program, class_number}
use Rattle.st_values.specs.Value.{Value, ◌>>=◌}
use Rattle.st_meaning.specs.State.{Spot, State, path_of}
use Rattle.st_meaning.specs.Operation.{class_in}
use Rattle.run_state.specs.Places.{spot_value}
use Rattle.call_steps.specs.Found.{Found}

abbrev pub class_in_value : Program → Value → Option ℕ
class_in_value p v = class_in v >>= class_number p

abbrev pub class_if_there : Program → Option Value → Option ℕ
class_if_there p o = o >>= class_in_value p

-- the routine with its instance, where there are both
abbrev pub found_on : Option Routine → Option Path → Option Found
found_on r q = r >>= λ routine. q >>= λ own. Some (record { routine = routine; own = own })

abbrev pub found_by : Program → (ℕ → Option Routine) → State → Spot → Option Found
found_by p sought s spot = class_if_there p (spot_value s spot) >>= λ c. found_on (sought c) (path_of spot)
