-- What is given as an initial value in the checked program of a good unit that is formed.
use Rattle.std.specs.Prelude.{ℕ, List}
use Rattle.st_tree.specs.declared.program.Program.{Program as Checked}
use Rattle.st_tree.specs.declared.unit.Decl.{Decl}
use Rattle.st_unit_rules.specs.Checked.{IsChecked}
use Rattle.st_unit_rules.specs.UnitRefusal.{BreaksNothing}
use Rattle.st_values.specs.View.{program_of}
use Rattle.accepted_texts.specs.formed_units.Formed.{IsFormed}
use Rattle.constant_laws.specs.Given.{AllGiven}

pub record InitialLaws : Type 0 where
  -- each field of a structure and each variable that an instance keeps begins with what is of its type
  pub given : (most : ℕ) (decls : List (Decl ℕ)) (p : Checked) → IsFormed most decls → BreaksNothing decls → IsChecked decls p → AllGiven (program_of p)
