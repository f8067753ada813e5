-- What a unit is refused for: its first bad declaration, with the least code that it breaks, at its least line.
use Rattle.std.specs.Prelude.{◌≡◌, ◌<◌, ℕ, codes, List, [], Option, Some, None, slice_get}
use Rattle.plc_text.specs.declared.code.Code.TheVariants.{E15}
use Rattle.plc_text.specs.declared.code.Code.{Code}
use Rattle.st_tree.specs.declared.unit.Decl.{Decl}
use Rattle.st_rules.specs.Faults.{Faults, BreaksFirst}
use Rattle.st_unit_rules.specs.declared_names.Declarations.{Placed, placed, name_of, configurations_in}
use Rattle.st_unit_rules.specs.DeclarationRules.{declaration_faults}

module _ (decls : List (Decl ℕ)) where
  abbrev pub faults_of : ℕ → Option Placed → Faults
  faults_of i None = []
  faults_of i (Some x) = declaration_faults decls i x

  -- the rules that the declaration at a place breaks
  abbrev pub faults_at : ℕ → Faults
  faults_at i = faults_of i (slice_get (placed decls) i)

  -- the declaration at a place is bad, and none before it
  pub record IsFirstBad (code : Code) (declaration : List ℕ) (line : ℕ) : Type 0 where
    pub place : ℕ
    pub bad : Placed
    pub there : slice_get (placed decls) place ≡ Some bad
    pub breaks : BreaksFirst (faults_at place) code line
    pub name : declaration ≡ (name_of bad.declaration).text
    pub good : (i : ℕ) → i < place → faults_at i ≡ []

  pub record BreaksNothing : Type 0 where
    pub good : (i : ℕ) → faults_at i ≡ []

  pub data UnitRefusal : Code → List ℕ → ℕ → Type 0 where
    first_bad : {code : Code} {declaration : List ℕ} {line : ℕ} → IsFirstBad code declaration line → UnitRefusal code declaration line
    -- all is good, and there is no CONFIGURATION
    no_configuration : BreaksNothing → configurations_in decls ≡ [] → UnitRefusal E15 (codes "-") 1
