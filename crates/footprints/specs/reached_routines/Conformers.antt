-- The classes that conform to each type.
use Rattle.std.specs.Prelude.{ℕ, List, IsTrue}
use Rattle.st_types.specs.declared.st_type.StType.{StType}
use Rattle.st_values.specs.Program.{Program, conforms}
use Rattle.st_meaning.specs.st_frame.Footprint.{Has}
use Rattle.footprints.specs.declared.reached_routines.conformers.Conformers.{Conformers}
use Rattle.footprints.specs.reached_routines.Families.{family_of}
use Rattle.footprints.specs.reached_routines.Private.Families.{classes_if}

abbrev pub classes_of : Conformers → StType → List ℕ
classes_of t kind = classes_if t.families (family_of kind)

-- the tables hold for each type just the classes that conform to it
pub record AreConformers (p : Program) (t : Conformers) : Type 0 where
  pub sound : (kind : StType) (c : ℕ) → Has (classes_of t kind) c → IsTrue (conforms p c kind)
  pub complete : (kind : StType) (c : ℕ) → IsTrue (conforms p c kind) → Has (classes_of t kind) c
