-- The parameters and locals of the routines of a program, in tables.
use Rattle.std.specs.Prelude.{◌≡◌, List, [], Option, Some, None, slice_get}
use Rattle.st_tree.specs.declared.program.Program.{Program}
use Rattle.st_values.specs.Program.{Variable, Parameter, Routine}
use Rattle.program_tables.specs.st_initial.Variables.{variables_of}
use Rattle.program_tables.specs.Routine.{routine_of}
use Rattle.program_tables.specs.declared.routine.RoutineId.{RoutineId}
use Rattle.program_tables.specs.declared.routine.RoutineId.TheVariants as id
use Rattle.routine_tables.specs.declared.entry.Entry.{Entry}
use Rattle.routine_tables.specs.declared.tables.RoutineTables.{RoutineTables}
use Rattle.routine_tables.specs.Parameters.{parameters_of}

abbrev pub parameters_in : Option Entry → List Parameter
parameters_in None = []
parameters_in (Some e) = parameters_of e.parameters

abbrev pub locals_in : Option Entry → List Variable
locals_in None = []
locals_in (Some e) = variables_of e.locals

-- the entry has what the routine has; where there is none, it has nothing
pub record IsIn (o : Option Entry) (r : Routine) : Type 0 where
  pub parameters : parameters_in o ≡ r.parameters
  pub locals : locals_in o ≡ r.locals

abbrev pub items_at : Option (List Entry) → List Entry
items_at None = []
items_at (Some es) = es

abbrev pub entry_at : RoutineTables → RoutineId → Option Entry
entry_at t (id.Function k) = slice_get t.functions k
entry_at t (id.Method c m) = slice_get (items_at (slice_get t.methods c)) m
entry_at t (id.Body c) = slice_get t.bodies c

abbrev pub parameters_at : RoutineTables → RoutineId → List Parameter
parameters_at t i = parameters_in (entry_at t i)

abbrev pub locals_at : RoutineTables → RoutineId → List Variable
locals_at t i = locals_in (entry_at t i)

-- the tables hold what each routine of the program declares
pub record Holds (p : Program) (t : RoutineTables) : Type 0 where
  pub parameters : (i : RoutineId) → parameters_at t i ≡ (routine_of p i).parameters
  pub locals : (i : RoutineId) → locals_at t i ≡ (routine_of p i).locals
