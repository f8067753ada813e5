-- What the phases of a change look into.
use Rattle.std.specs.Prelude.{◌≡◌}
use Rattle.st_values.specs.Program.{Program}
use Rattle.st_values.specs.View.{program_of}
use Rattle.change_names.specs.change_paths.Change.{IsChange}
use Rattle.change_kept.specs.Kept.{AreKept}
use Rattle.reference_tasks.specs.Loaded.{IsLoaded}
use Rattle.reference_change.specs.declared.turn.Turn.{Turn}

-- the two programs
abbrev pub old_of : Turn → Program
old_of t = program_of t.change.old.program.now

abbrev pub new_of : Turn → Program
new_of t = program_of t.change.new.program.now

-- all is of these two
pub record IsTurn (t : Turn) : Type 0 where
  pub change : IsChange t.change
  pub are_kept : AreKept (old_of t) (new_of t) t.kept.now
  pub old_loaded : IsLoaded t.old.now
  pub new_loaded : IsLoaded t.new.now
  pub old_program : t.old.now.tables.now ≡ t.change.old.program.now
  pub new_program : t.new.now.tables.now ≡ t.change.new.program.now
