-- One input takes its value.
use Rattle.std.specs.Prelude.{ℕ, List, if◌then◌else◌, ◌&&◌}
use Rattle.st_tree.specs.declared.address.Area.TheVariants as area
use Rattle.st_rules.specs.Chains.{is_among}
use Rattle.st_values.specs.Value.{Store, number, put}
use Rattle.st_meaning.specs.State.{State}
use Rattle.st_meaning.specs.ProcessImage.{Located, input_value, is_in, or_same}

abbrev pub with_store : State → Store → State
with_store s st = record s { store = st }

abbrev pub given_to : List ℕ → Located → Store → Store
given_to input x s = or_same s (put s x.path (number (input_value input x)))

-- where it is an input in these regions
abbrev pub latched_one : List ℕ → List ℕ → Located → Store → Store
latched_one fs input x s = if is_in area.Input x && is_among x.path.region fs then given_to input x s else s
