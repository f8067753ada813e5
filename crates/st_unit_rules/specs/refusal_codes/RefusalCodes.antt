-- The codes of what units are refused for: E17 is none of them, since hooks alone have it, at loading.
use Rattle.std.specs.Prelude.{◌≡◌, ℕ, false, List, Some}
use Rattle.plc_text.specs.declared.code.Code.{Code}
use Rattle.plc_text.specs.Code.{is_e17}
use Rattle.st_tree.specs.declared.unit.Decl.{Decl}
use Rattle.st_rules.specs.Faults.{least}
use Rattle.st_unit_rules.specs.declared_names.Declarations.{Placed}
use Rattle.st_unit_rules.specs.DeclarationRules.{declaration_faults}
use Rattle.st_unit_rules.specs.UnitRefusal.{UnitRefusal}

pub record RefusalCodes : Type 0 where
  -- of a declaration, wherever it is placed
  pub codes : (decls : List (Decl ℕ)) (i : ℕ) (x : Placed) (code : Code) (line : ℕ) → least (declaration_faults decls i x) ≡ Some (code, line) → is_e17 code ≡ false
  -- of a unit
  pub refusals : (decls : List (Decl ℕ)) (code : Code) (declaration : List ℕ) (line : ℕ) → UnitRefusal decls code declaration line → is_e17 code ≡ false
