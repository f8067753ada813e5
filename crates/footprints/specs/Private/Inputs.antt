-- Which regions hold variables with addresses of inputs.
use Rattle.std.specs.Prelude.{◌≡◌, ℕ, Bool, true, false, if◌then◌else◌, List, map, Option, Some, None, unwrap_or, IsTrue, slice_get}
use Rattle.std.specs.List.{list_any}
use Rattle.st_tree.specs.declared.address.Area.TheVariants as area
use Rattle.st_tree.specs.Address.{area_of}
use Rattle.st_values.specs.Program.{Variable, Region, Program, class_variables}
use Rattle.program_tables.specs.declared.st_initial.variables.Variable.{Variable as CodeVariable}
use Rattle.program_tables.specs.st_initial.Members.{list_at}
use Rattle.st_meaning.specs.Call.{class_of_kind}
use Rattle.st_meaning.specs.ProcessImage.{Located, located_of, is_in, same_area}
use Rattle.st_meaning.specs.st_frame.Footprint.{Has}

abbrev pub is_input : Option (List ℕ) → Bool
is_input None = false
is_input (Some address) = same_area (area_of address) area.Input

abbrev pub any_input : List Variable → Bool
any_input vs = list_any (λ v. is_input v.address) vs

-- whether a region holds an input
abbrev pub has_input : Program → Region → Bool
has_input p x = if x.program then any_input (class_variables p (class_of_kind x.variable.kind)) else is_input x.variable.address

abbrev pub marked : List Bool → ℕ → Bool
marked marks r = unwrap_or (slice_get marks r) false

abbrev pub are_inputs : Program → List Bool
are_inputs p = map (has_input p) p.regions

-- an input lies in the region
abbrev pub HoldsInput : Program → ℕ → Type 0
HoldsInput p r = (x : Located) × Has (located_of p) x × IsTrue (is_in area.Input x) × (r ≡ x.path.region)

-- the same by the lists of the variables of classes
abbrev pub class_list : List (List CodeVariable) → ℕ → List Variable
class_list classes c = list_at classes c

abbrev pub has_input_by : List (List CodeVariable) → Region → Bool
has_input_by classes x = if x.program then any_input (class_list classes (class_of_kind x.variable.kind)) else is_input x.variable.address

-- the region, where it is marked
abbrev pub IsInput : List Bool → ℕ → ℕ → Type 0
IsInput marks region r = (r ≡ region) × (marked marks region ≡ true)
