-- Which routine a declaration of the code is.
use Rattle.std.specs.Prelude.{ℕ, List, [], Option, Some, None, option_map, slice_get}
use Rattle.st_tree.specs.declared.declaration.ClassDecl.{ClassDecl}
use Rattle.st_tree.specs.declared.declaration.Member.{Member}
use Rattle.st_tree.specs.declared.declaration.Member.TheVariants as member
use Rattle.st_tree.specs.declared.declaration.Method.{Method}
use Rattle.st_tree.specs.declared.program.Note.{Note}
use Rattle.st_tree.specs.declared.program.Program.{Program as CheckedProgram}
use Rattle.st_tree.specs.Statement.{no_statements}
use Rattle.st_values.specs.Program.{Routine, body_of}
use Rattle.st_values.specs.View.{method_of, program_of}
use Rattle.program_tables.specs.declared.routine.RoutineId.{RoutineId}
use Rattle.program_tables.specs.declared.routine.RoutineId.TheVariants as id

abbrev pub members_of : Option (ClassDecl Note) → List (Member Note)
members_of None = []
members_of (Some d) = d.members

abbrev pub method_in : Option (Member Note) → Option (Method Note)
method_in (Some (member.Method m)) = Some m
method_in _ = None

-- the method at a place among the members of a class
abbrev pub method_at : List (ClassDecl Note) → ℕ → ℕ → Option (Method Note)
method_at classes c m = method_in (slice_get (members_of (slice_get classes c)) m)

abbrev pub routine_there : CheckedProgram → RoutineId → Option Routine
routine_there p (id.Function k) = slice_get (program_of p).functions k
routine_there p (id.Method c m) = option_map (method_of c) (method_at p.classes c m)
routine_there p (id.Body c) = body_of (program_of p) c

-- the class whose text a routine is
abbrev pub class_of : RoutineId → Option ℕ
class_of (id.Function k) = None
class_of (id.Method c m) = Some c
class_of (id.Body c) = Some c

abbrev pub or_empty : Option ℕ → Option Routine → Routine
or_empty class None = record { name = []; line = 0; class = class; parameters = []; locals = []; body = no_statements }
or_empty class (Some r) = r

-- the routine that a declaration is; an empty one where there is no such declaration
unfoldable pub routine_of : CheckedProgram → RoutineId → Routine
routine_of p i = or_empty (class_of i) (routine_there p i)
