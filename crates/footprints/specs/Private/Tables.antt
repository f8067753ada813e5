-- All that footprints go by.
use Rattle.std.specs.Prelude.{◌≡◌, length}
use Rattle.st_values.specs.View.{program_of}
use Rattle.routine_tables.specs.Tables.{Holds}
use Rattle.routine_tables.specs.signature_tables.Tables.{Declares}
use Rattle.region_instances.specs.Instances.{RegionsUnfold}
use Rattle.footprints.specs.reached_routines.Conformers.{AreConformers}
use Rattle.footprints.specs.declared.tables.Tables.{Tables}
use Rattle.footprints.specs.Private.Holders.{AreAllHolders}
use Rattle.footprints.specs.Private.Inputs.{are_inputs}

-- the tables are those of the program
pub record AreTables (t : Tables) : Type 0 where
  pub tables : t.tables ≡ t.program.now
  pub routines : Holds t.program.now t.routines
  pub signatures : Declares t.program.now t.signatures
  pub conformers : AreConformers (program_of t.program.now) t.conformers
  pub all_classes : length t.holders.items ≡ length (program_of t.program.now).classes
  pub holders : RegionsUnfold (program_of t.program.now) → AreAllHolders (program_of t.program.now) (length (program_of t.program.now).regions) t.holders.items
  pub inputs : t.inputs.items ≡ are_inputs (program_of t.program.now)
