-- Laws of refusals: a unit is good, or is refused for one thing.
use Rattle.std.specs.Prelude.{◌≡◌, ◌⊎◌, ℕ, List, []}
use Rattle.plc_text.specs.declared.code.Code.{Code}
use Rattle.st_tree.specs.declared.unit.Decl.{Decl}
use Rattle.st_unit_rules.specs.declared_names.Declarations.{configurations_in}
use Rattle.st_unit_rules.specs.UnitRefusal.{BreaksNothing, UnitRefusal}

-- nothing breaks a rule, and there is a configuration
pub record IsGood (decls : List (Decl ℕ)) : Type 0 where
  pub nothing : BreaksNothing decls
  pub configured : configurations_in decls ≡ [] → ⊥

pub record RefusalLaws : Type 0 where
  pub decided : (decls : List (Decl ℕ)) → IsGood decls ⊎ ((code : Code) × (declaration : List ℕ) × (line : ℕ) × UnitRefusal decls code declaration line)
  pub not_both : (decls : List (Decl ℕ)) (code : Code) (declaration : List ℕ) (line : ℕ) → IsGood decls → UnitRefusal decls code declaration line → ⊥
  pub one : (decls : List (Decl ℕ)) (code code' : Code) (declaration declaration' : List ℕ) (line line' : ℕ) → UnitRefusal decls code declaration line → UnitRefusal decls code' declaration' line'
      → (code ≡ code') × (declaration ≡ declaration') × (line ≡ line')
