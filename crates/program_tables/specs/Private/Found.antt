-- What is found in the parts of tables.
use Rattle.std.specs.Prelude.{ℕ, ◌+◌, nat_eq, nat_lt, Bool, false, if◌then◌else◌, List, [], length, Option, Some, None}
use Rattle.st_tree.specs.declared.program.Program.{Program}
use Rattle.st_types.specs.declared.st_type.StType.{StType}
use Rattle.st_types.specs.declared.st_type.StType.TheVariants as type
use Rattle.st_rules.specs.Chains.{◌or_else◌, climb}
use Rattle.graph_reach.specs.Reach.{ahead_in, reaches}
use Rattle.program_tables.specs.declared.parts.Tables.{Tables}
use Rattle.program_tables.specs.declared.routine.RoutineId.{RoutineId}
use Rattle.program_tables.specs.declared.routine.RoutineId.TheVariants as id
use Rattle.program_tables.specs.Private.Places.{found_in}
use Rattle.st_rules.specs.Upward.{upward, base_in}
use Rattle.program_tables.specs.Private.Climb.{any_upward, own_method, implements_itself}

-- how many classes and programs there are
abbrev pub count : Program → ℕ
count p = length p.classes + length p.programs

abbrev pub class_number : Tables → List ℕ → Option ℕ
class_number t name = found_in t.class_places name or_else found_in t.program_places name

abbrev pub function : Tables → ℕ → Option RoutineId
function t k = if nat_lt k t.functions then Some (id.Function k) else None

abbrev pub body_of : Tables → ℕ → Option RoutineId
body_of t c = if nat_lt c t.classes then Some (id.Body c) else None

abbrev pub method : Tables → ℕ → List ℕ → Option RoutineId
method t c name = upward (own_method t.methods.items name) (base_in t.bases.items) (length t.bases.items + 1) c

abbrev pub chain : Tables → ℕ → List ℕ
chain t c = if nat_lt c t.classes then climb (base_in t.bases.items) (length t.bases.items + 1) [] (Some c) else []

abbrev pub is_derived : Tables → ℕ → ℕ → Bool
is_derived t c d = if nat_lt c t.classes then any_upward (nat_eq d) (base_in t.bases.items) (length t.bases.items + 1) c else false

abbrev pub conforms_to : Tables → ℕ → ℕ → Bool
conforms_to t c i =
    if nat_lt i t.interfaces then any_upward (implements_itself t.implemented.items t.reach.items i) (base_in t.bases.items) (length t.bases.items + 1) c else false

abbrev pub extended : Tables → ℕ → List ℕ
extended t i = ahead_in t.extended.items i

abbrev pub extends : Tables → ℕ → ℕ → Bool
extends t i j = if nat_lt i t.interfaces then (if nat_lt j t.interfaces then reaches t.reach.items i j else false) else false

abbrev pub conforms : Tables → ℕ → StType → Bool
conforms t c (type.Instance d) = is_derived t c d
conforms t c (type.Reference d) = is_derived t c d
conforms t c (type.Interface i) = conforms_to t c i
conforms t c _ = false
