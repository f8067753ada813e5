-- Whether a declaration of the text is a configuration.
use Rattle.std.specs.Prelude.{ℕ, Bool, true, false}
use Rattle.st_tree.specs.declared.unit.Decl.{Decl}
use Rattle.st_tree.specs.declared.unit.Decl.TheVariants as declaration

abbrev pub declares_configuration : Decl ℕ → Bool
declares_configuration (declaration.Types l ts) = false
declares_configuration (declaration.Globals s) = false
declares_configuration (declaration.Interface i) = false
declares_configuration (declaration.Class c) = false
declares_configuration (declaration.Function f) = false
declares_configuration (declaration.Program p) = false
declares_configuration (declaration.Configuration c) = true
