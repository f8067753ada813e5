-- Parts of written types and of initial values.
use Rattle.std.specs.Prelude.{ℕ, List, Option, Some, None, flat_map}
use Rattle.st_tree.specs.declared.type_spec.ArraySpec.{ArraySpec}
use Rattle.st_tree.specs.declared.type_spec.Bounds.{Bounds}
use Rattle.st_tree.specs.Expression.{Expression}
use Rattle.st_tree.specs.Initial.{Initial, Value}

abbrev pub bounds_of : List (ArraySpec ℕ) → List (Bounds ℕ)
bounds_of arrays = flat_map (λ a. a.bounds) arrays

-- an initial value that is an expression
abbrev pub expression_given : Option (Initial ℕ) → Option (Expression ℕ)
expression_given (Some (Value e)) = Some e
expression_given _ = None
