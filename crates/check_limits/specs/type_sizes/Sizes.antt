-- What the sizes of types are of.
use Rattle.std.specs.Prelude.{◌≡◌, length}
use Rattle.st_rules.specs.Scope.{Scope}
use Rattle.check_limits.specs.declared.type_sizes.sizes.TypeSizes.{TypeSizes}
use Rattle.check_limits.specs.type_sizes.Levels.{AreLevels}

-- of the types that the scope sees
pub record Measures (sizes : TypeSizes) (s : Scope) : Type 0 where
  pub long : length sizes.levels.items ≡ 66
  pub levels : AreLevels s sizes.levels.items
