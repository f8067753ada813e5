-- Types and constants are told one by one, in any order, until no more can be told: then all is told that the unit says of its names.
use Rattle.std.specs.Prelude.{◌≡◌, ℕ, zero, true, List, Some, slice_get}
use Rattle.std.specs.Option.{is_some}
use Rattle.st_types.specs.declared.st_type.StType.{StType}
use Rattle.st_tree.specs.declared.unit.Decl.{Decl}
use Rattle.st_rules.specs.declared.names.DeclaredVariable.{DeclaredVariable}
use Rattle.st_rules.specs.declared.names.DeclaredClass.{DeclaredClass}
use Rattle.st_rules.specs.declared.names.DeclaredType.{DeclaredType}
use Rattle.st_rules.specs.declared.names.DeclaredGlobal.{DeclaredGlobal}
use Rattle.st_rules.specs.declared.names.DeclaredGlobal.TheVariants as global
use Rattle.st_rules.specs.declared.names.DeclaredNames.{DeclaredNames}
use Rattle.st_rules.specs.Telling.{with_type, with_global, with_member}
use Rattle.st_unit_rules.specs.declared_names.Constants.{is_told}
use Rattle.st_unit_rules.specs.declared_names.UnitNames.{names_from, names_told, unit_names}
use Rattle.resolution_order.specs.told_laws.ToldLaws.{Each, TellsNoLess, TellsKinds}

-- ---- what is told so far, and what is left

-- all that is told so far is so in the unit, and the value of a constant is told only with its type
pub record Sound (decls : List (Decl ℕ)) (a : DeclaredNames) : Type 0 where
  pub kinds : TellsKinds a
  pub below : TellsNoLess a (unit_names decls)

abbrev pub NoTypeLeft : DeclaredType → DeclaredType → Type 0
NoTypeLeft t u = is_some u.kind ≡ true → is_some t.kind ≡ true

abbrev pub NoValueLeft : DeclaredVariable → DeclaredVariable → Type 0
NoValueLeft v w = w.constant ≡ true → is_told w.target ≡ true → is_told v.target ≡ true

abbrev pub NoGlobalLeft : DeclaredGlobal → DeclaredGlobal → Type 0
NoGlobalLeft (global.Variable v) (global.Variable w) = NoValueLeft v w
NoGlobalLeft _ _ = Unit {0}

-- each type and each constant that the second tells is told in the first
pub record NothingLeft (a b : DeclaredNames) : Type 0 where
  pub types : Each NoTypeLeft a.types b.types
  pub globals : Each NoGlobalLeft a.globals b.globals
  pub classes : Each (λ c d. Each NoValueLeft c.variables d.variables) a.classes b.classes

-- ---- the laws

pub record TellingLaws : Type 0 where
  -- at first nothing is told
  pub begun : (decls : List (Decl ℕ)) → Sound decls (names_told decls zero)
  -- what can be told from what is told so far may be told
  pub type_next : (decls : List (Decl ℕ)) (a : DeclaredNames) (i : ℕ) (d : DeclaredType) (t : StType) → Sound decls a
      → slice_get (names_from decls a).types i ≡ Some d → d.kind ≡ Some t → Sound decls (with_type a i t)
  pub global_next : (decls : List (Decl ℕ)) (a : DeclaredNames) (i : ℕ) (v : DeclaredVariable) (t : StType) → Sound decls a
      → slice_get (names_from decls a).globals i ≡ Some (global.Variable v) → v.kind ≡ Some t → Sound decls (with_global a i t v.target)
  pub member_next : (decls : List (Decl ℕ)) (a : DeclaredNames) (c i : ℕ) (d : DeclaredClass) (v : DeclaredVariable) (t : StType) → Sound decls a
      → slice_get (names_from decls a).classes c ≡ Some d → slice_get d.variables i ≡ Some v → v.kind ≡ Some t → Sound decls (with_member a c i t v.target)
  -- where nothing more can be told, what is told from it is what the unit says of its names
  pub ended : (decls : List (Decl ℕ)) (a : DeclaredNames) → Sound decls a → NothingLeft a (names_from decls a) → names_from decls a ≡ unit_names decls
