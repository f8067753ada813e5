-- What is promised of the sizes of a good unit's program, and of its outputs.
use Rattle.std.specs.Prelude.{◌≤◌, ◌<◌, ℕ, List}
use Rattle.st_tree.specs.declared.program.Program.{Program as CheckedProgram}
use Rattle.st_tree.specs.declared.unit.Decl.{Decl}
use Rattle.st_unit_rules.specs.Checked.{IsChecked}
use Rattle.st_unit_rules.specs.RefusalLaws.{IsGood}
use Rattle.st_values.specs.Program.{Program}
use Rattle.st_values.specs.Value.{Store}
use Rattle.st_values.specs.View.{program_of}
use Rattle.st_meaning.specs.ProcessImage.{located_of, covered, output_byte}
use Rattle.st_meaning.specs.st_frame.Footprint.{Has}
use Rattle.st_meaning.specs.st_frame.Good.{GoodOn}
use Rattle.st_meaning.specs.st_frame.Promise.Programs.{ProgramIs}
use Rattle.mem_layout.specs.store_bytes.InitialLaws.{StartsInRange}
use Rattle.mem_layout.specs.loaded_meaning.Sized.{IsSized}
use Rattle.mem_layout.specs.loaded_meaning.Outputs.{OutputsAre}
use Rattle.st_prelude.specs.Blocks.{standard_blocks}
use Rattle.accepted_texts.specs.st_accepted.Accepted.{Accepted}
use Rattle.accepted_texts.specs.formed_units.Formed.{IsFormed}
use Rattle.accepted_texts.specs.sized_units.Locals.{LocalsAre}

pub record SizedUnitLaws : Type 0 where
  -- the checked program of a good unit that is formed is sized
  pub sized : (most : ℕ) (decls : List (Decl ℕ)) (p : CheckedProgram) → most ≤ 4_294_967_296 → IsFormed most decls → IsGood decls → IsChecked decls p → IsSized (program_of p)
  -- its outputs end within the image and share no bit
  pub outputs : (most : ℕ) (decls : List (Decl ℕ)) (p : CheckedProgram) → IsFormed most decls → IsGood decls → IsChecked decls p → OutputsAre (program_of p)
  -- both hold of the program of each source that is accepted
  pub accepted : (text : List ℕ) (p : CheckedProgram) → Accepted standard_blocks text p → IsSized (program_of p)
  pub accepted_outputs : (text : List ℕ) (p : CheckedProgram) → Accepted standard_blocks text p → OutputsAre (program_of p)
  -- the locals of its functions, its methods and the bodies of its blocks have few values
  pub locals : (most : ℕ) (decls : List (Decl ℕ)) (p : CheckedProgram) → most ≤ 4_294_967_296 → IsFormed most decls → IsGood decls → IsChecked decls p → LocalsAre (program_of p)
  pub accepted_locals : (text : List ℕ) (p : CheckedProgram) → Accepted standard_blocks text p → LocalsAre (program_of p)
  -- where it keeps its promise, the initial values of its regions are in range
  pub starts : (p : Program) → ProgramIs p → IsSized p → StartsInRange p
  -- such outputs take at most 256 bytes
  pub covered_few : (p : Program) → OutputsAre p → (fs : List ℕ) → covered (located_of p) fs ≤ 256
  -- and in a store that is good in these regions, what they leave in each is a byte
  pub bytes : (p : Program) → ProgramIs p → OutputsAre p → (fs : List ℕ) (s : Store) → GoodOn p (Has fs) s → (b : ℕ) → output_byte (located_of p) fs s b < 256
