-- The tables of a program that changes.
use Rattle.std.specs.Prelude.{◌≡◌}
use Rattle.st_values.specs.View.{program_of}
use Rattle.program_tables.specs.st_initial.Members as members
use Rattle.change_names.specs.declared.side.Side.{Side}

-- the tables are those of the program
pub record IsSide (s : Side) : Type 0 where
  pub tables : s.tables.now ≡ s.program.now
  pub members : members.Holds (program_of s.program.now) s.members.now
