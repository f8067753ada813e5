-- What tables of names hold: all that a unit declares, the base of each class, and whether it has one.
use Rattle.std.specs.Prelude.{◌≡◌, ℕ, Bool, List, length, Option, option_map, option_and_then, slice_get}
use Rattle.std.specs.Option.{is_some}
use Rattle.st_rules.specs.declared.names.DeclaredNames.{DeclaredNames}
use Rattle.st_tree.specs.declared.declaration.ClassDecl.{ClassDecl}
use Rattle.st_rules.specs.Classes.{base_of}
use Rattle.st_rules.specs.Scope.{Scope}

pub record Told : Type 0 where
  pub names : DeclaredNames
  -- by the number of a class, where its base is found
  pub bases : List (Option ℕ)
  -- by the number of a class, whether it has EXTENDS
  pub derived : List Bool

-- the tables hold what a scope sees of the whole unit
pub record Holds (t : Told) (s : Scope) : Type 0 where
  pub names : s.names ≡ t.names
  pub bases : (c : ℕ) → option_and_then (λ b. b) (slice_get t.bases c) ≡ base_of s.classes c
  pub long : length t.bases ≡ length s.classes
  pub derived : (c : ℕ) → slice_get t.derived c ≡ option_map (λ class. is_some class.base) (slice_get s.classes c)

-- the tables know the bases of the classes
pub record Knows (t : Told) (classes : List (ClassDecl ℕ)) : Type 0 where
  pub bases : (c : ℕ) → option_and_then (λ b. b) (slice_get t.bases c) ≡ base_of classes c
  pub long : length t.bases ≡ length classes
  pub derived : (c : ℕ) → slice_get t.derived c ≡ option_map (λ class. is_some class.base) (slice_get classes c)
