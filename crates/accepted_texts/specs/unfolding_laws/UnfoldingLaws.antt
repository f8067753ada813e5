-- What the rules of a unit accept unfolds: the type of each region has a shape.
use Rattle.std.specs.Prelude.{◌≡◌, ℕ, List, Some, slice_get}
use Rattle.st_tree.specs.declared.program.Program.{Program}
use Rattle.st_tree.specs.declared.unit.Decl.{Decl}
use Rattle.st_unit_rules.specs.Checked.{IsChecked}
use Rattle.st_unit_rules.specs.RefusalLaws.{IsGood}
use Rattle.st_values.specs.Program.{Region}
use Rattle.st_values.specs.Shape.{Shape, region_shape}
use Rattle.st_values.specs.View.{program_of}

pub record UnfoldingLaws : Type 0 where
  -- in the checked program of a good unit
  pub regions : (decls : List (Decl ℕ)) (p : Program) → IsGood decls → IsChecked decls p → (r : ℕ) (x : Region) → slice_get (program_of p).regions r ≡ Some x → (sh : Shape) × (region_shape (program_of p) r ≡ Some sh)
