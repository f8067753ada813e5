-- A checked program of what was checked.
use Rattle.std.specs.Prelude.{◌≡◌, List}
use Rattle.st_tree.specs.declared.program.Program.{Program}
use Rattle.st_tree.specs.declared.program.TaskDecl.{TaskDecl}
use Rattle.st_check_decl.specs.declared.unit_check.progress.Progress.{Progress}

pub record IsMadeOf (made : Program) (x : Progress) (ts : List TaskDecl) : Type 0 where
  pub types-are : made.types ≡ x.declarations.trees.types
  pub classes-are : made.classes ≡ x.declarations.trees.classes
  pub interfaces-are : made.interfaces ≡ x.declarations.trees.interfaces
  pub functions-are : made.functions ≡ x.declarations.trees.functions
  pub programs-are : made.programs ≡ x.declarations.trees.programs
  pub regions-are : made.regions ≡ x.regions.regions
  pub tasks-are : made.tasks ≡ ts
