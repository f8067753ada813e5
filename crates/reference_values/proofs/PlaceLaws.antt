-- The value of a place, from the spot on.
use Rattle.std.proofs.Common.{◌≡◌, ℕ, refl}
use Rattle.st_types.specs.declared.st_type.StType.{StType}
use Rattle.st_types.specs.declared.st_type.StType.TheVariants as type
use Rattle.st_tree.specs.Expression.{place_of-root, place_of-selectors}
use Rattle.st_meaning.specs.State.{Spot, State, Run, go_on, gives}
use Rattle.st_meaning.specs.Expression.{place_value}

pub value_from : (t : StType) (place : Run Spot) (line : ℕ) (s : State) → place_value t place line s ≡ go_on (place line s) (λ spot. place_value t (gives spot) line)
value_from (type.Instance c) place line s = refl
value_from t place line s = refl

pub ruleset place_views = (place_of-root, place_of-selectors)
