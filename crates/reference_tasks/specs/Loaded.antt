-- The tables with which a program is run.
use Rattle.std.specs.Prelude.{◌≡◌}
use Rattle.st_values.specs.View.{program_of}
use Rattle.program_tables.specs.st_initial.Members as members
use Rattle.routine_tables.specs.Tables.{Holds}
use Rattle.reference_tasks.specs.declared.loaded.Loaded.{Loaded}

-- the tables are those of the program
pub record IsLoaded (on : Loaded) : Type 0 where
  pub tables : on.tables.now ≡ on.program.now
  pub members : members.Holds (program_of on.program.now) on.members.now
  pub routines : Holds on.tables.now on.routines.now
