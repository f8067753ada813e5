-- Laws of passing the declarations of a unit.
use Rattle.std.specs.Prelude.{◌≡◌, ℕ, List, Option, Some}
use Rattle.plc_text.specs.declared.code.Code.{Code}
use Rattle.st_tree.specs.declared.name.Name.{Name}
use Rattle.st_tree.specs.declared.unit.Decl.{Decl}
use Rattle.st_rules.specs.Classes.{classes_in}
use Rattle.st_rules.specs.Interfaces.{interfaces_in}
use Rattle.st_unit_rules.specs.declared_names.Declarations.{entries_in, functions_in, programs_in}
use Rattle.st_unit_rules.specs.Checked.{unit_regions}
use Rattle.st_unit_rules.specs.UnitRefusal.{BreaksNothing, IsFirstBad}
use Rattle.st_unit_rules.specs.passing_laws.Passing.{At, AllDeclsGood, OneDeclBad, after_all, no_declarations}

-- a declaration of this name breaks this, of all rules the least at its least line
abbrev pub SaysOf : Code → List ℕ → ℕ → Name → Option (Code × ℕ) → Type 0
SaysOf code declaration line name fault = (declaration ≡ name.text) × (fault ≡ Some (code, line))

abbrev pub all_of : List (Decl ℕ) → At
all_of decls = after_all no_declarations decls

pub record PassingLaws : Type 0 where
  pub good : (decls : List (Decl ℕ)) → AllDeclsGood decls no_declarations decls → BreaksNothing decls
  pub bad : (decls : List (Decl ℕ)) (code : Code) (declaration : List ℕ) (line : ℕ) → OneDeclBad decls (SaysOf code declaration line) no_declarations decls → IsFirstBad decls code declaration line
  pub types : (decls : List (Decl ℕ)) → (all_of decls).types ≡ entries_in decls
  pub classes : (decls : List (Decl ℕ)) → (all_of decls).classes ≡ classes_in decls
  pub interfaces : (decls : List (Decl ℕ)) → (all_of decls).interfaces ≡ interfaces_in decls
  pub functions : (decls : List (Decl ℕ)) → (all_of decls).functions ≡ functions_in decls
  pub programs : (decls : List (Decl ℕ)) → (all_of decls).programs ≡ programs_in decls
  pub regions : (decls : List (Decl ℕ)) → (all_of decls).regions ≡ unit_regions decls
