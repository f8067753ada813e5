-- Laws of constants and of the names of locals.
use Rattle.std.specs.Prelude.{◌≡◌, ℕ, ℤ, true, false, List, [], ◌∷◌, ◌++◌, map, Option, Some, None}
use Rattle.st_types.specs.declared.elem.Elem.{Elem}
use Rattle.st_tree.specs.declared.declaration.Section.{Section}
use Rattle.st_tree.specs.declared.expression.Operator.TheVariants as operator
use Rattle.st_tree.specs.declared.type_spec.TypeSpec.{TypeSpec}
use Rattle.st_tree.specs.Expression.{Expression}
use Rattle.st_rules.specs.declared.asked.Asked.{Asked}
use Rattle.st_rules.specs.Scope.{Scope}
use Rattle.st_unit_rules.specs.declared_names.Constants.{Outcome, comes_to, operated, is_zero, constant_value, value_faults, names_are_told, told_value}
use Rattle.st_unit_rules.specs.declared_names.Variables.{sections_written, routine_locals}
use Rattle.st_unit_rules.specs.declared_names.UnitNames.{told_locals}

-- a result has the routine's name
abbrev pub result_name : List ℕ → Option (TypeSpec ℕ) → List (List ℕ)
result_name name None = []
result_name name (Some t) = name ∷ []

pub record ConstantLaws : Type 0 where
  -- where a value is told, all names are, it breaks no rule of values, and it is the value
  pub told : (s : Scope) (asked : Asked) (e : Expression ℕ) (z : ℤ) → told_value s asked e ≡ Some z → (names_are_told s e ≡ true) × (value_faults s asked e ≡ []) × (constant_value s asked e ≡ comes_to z)
  -- where the left operand decides, the right one is not evaluated
  pub and_skips : (e : Elem) (line : ℕ) (a : ℤ) (x : Outcome) → is_zero a ≡ true → operated operator.AndThen e line (comes_to a) x ≡ comes_to a
  pub or_skips : (e : Elem) (line : ℕ) (a : ℤ) (x : Outcome) → is_zero a ≡ false → operated operator.OrElse e line (comes_to a) x ≡ comes_to a
  -- the names of the locals do not hang on what is told of them
  pub names_stay : (s : Scope) (name : List ℕ) (result : Option (TypeSpec ℕ)) (sections : List (Section ℕ)) (k : ℕ)
      → map (λ v. v.name) (told_locals s (λ t. routine_locals t name result sections) k) ≡ result_name name result ++ map (λ w. w.name.text) (sections_written sections)
