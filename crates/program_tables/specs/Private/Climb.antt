-- Searches upward from a class, by a count of steps.
use Rattle.std.specs.Prelude.{ℕ, zero, suc, Bool, false, ◌||◌, List, Option, option_map, option_and_then, slice_get}
use Rattle.std.specs.List.{list_any}
use Rattle.st_rules.specs.Numbered.{passes_if_there}
use Rattle.graph_reach.specs.Reach.{reaches}
use Rattle.program_tables.specs.declared.routine.RoutineId.{RoutineId}
use Rattle.program_tables.specs.declared.routine.RoutineId.TheVariants as id
use Rattle.program_tables.specs.Private.Places.{Table, found_in}

-- whether one of them passes
abbrev pub any_upward : (ℕ → Bool) → (ℕ → Option ℕ) → ℕ → ℕ → Bool
any_upward test above zero c = false
any_upward test above (suc n) c = test c || passes_if_there (any_upward test above n) (above c)

-- the method of the name that a class declares itself
abbrev pub own_method : List Table → List ℕ → ℕ → Option RoutineId
own_method methods name c = option_map (id.Method c) (option_and_then (λ t. found_in t name) (slice_get methods c))

-- whether a class itself implements the interface, or one that extends it
abbrev pub implements_itself : List (List ℕ) → List (List ℕ) → ℕ → ℕ → Bool
implements_itself implemented reach i c = passes_if_there (λ js. list_any (λ j. reaches reach j i) js) (slice_get implemented c)
