-- What every source that is read gives of its unit, with the prelude before it: it is formed, and where it breaks no rule all is told.
use Rattle.std.specs.Prelude.{◌≤◌, ℕ, List, length}
use Rattle.st_tree.specs.declared.unit.Decl.{Decl}
use Rattle.st_tree.specs.declared.unit.Unit.{Unit as ProgramText}
use Rattle.st_prelude.specs.Blocks.{standard_blocks}
use Rattle.st_unit_rules.specs.UnitRefusal.{BreaksNothing}
use Rattle.accepted_texts.specs.told_units.Told.{IsFormedUnit, AllIsTold}
use Rattle.accepted_texts.specs.st_accepted.Accepted.{most_bytes, IsUnit}
use Rattle.accepted_texts.specs.formed_units.Formed.{IsFormed}

pub record FormedTextLaws : Type 0 where
  -- the unit of a source is formed, with any prelude and with that of the standard blocks
  pub formed : (most : ℕ) (prelude text : List ℕ) (whole : ProgramText) → length prelude ≤ most → most_bytes ≤ most → IsUnit prelude text whole → IsFormed most whole.decls
  pub standard : (text : List ℕ) (whole : ProgramText) → IsUnit standard_blocks text whole → IsFormed most_bytes whole.decls
  -- a formed unit has what is asked where all is told
  pub arguments : (most : ℕ) (decls : List (Decl ℕ)) → IsFormed most decls → IsFormedUnit decls
  -- in a formed unit that breaks no rule all is told
  pub told : (most : ℕ) (decls : List (Decl ℕ)) → IsFormed most decls → BreaksNothing decls → AllIsTold decls
