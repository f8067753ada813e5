-- The tables of a program.
use Rattle.std.specs.Prelude.{◌≡◌}
use Rattle.st_tree.specs.declared.program.Program.{Program}
use Rattle.st_values.specs.View.{program_of}
use Rattle.program_tables.specs.st_initial.Members as members
use Rattle.program_tables.specs.declared.st_initial.members.Members.{Members}
use Rattle.routine_tables.specs.Tables.{Holds}
use Rattle.routine_tables.specs.declared.tables.RoutineTables.{RoutineTables}

-- the tables are those of the program, of which the first are seen as the program
pub record AreTables (p tables : Program) (variables : Members) (routines : RoutineTables) : Type 0 where
  pub same : tables ≡ p
  pub holds : members.Holds (program_of p) variables
  pub entries : Holds p routines
