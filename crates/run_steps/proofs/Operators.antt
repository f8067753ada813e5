-- An operator that is known, and what it gives.
use Rattle.std.proofs.Common.{◌≡◌, ℕ, sym, ap, ◌∙◌}
use Rattle.st_types.specs.declared.elem.Elem.{Elem}
use Rattle.st_tree.specs.declared.expression.Operator.{Operator}
use Rattle.st_values.specs.Value.{Value}
use Rattle.st_meaning.specs.Operation.{operation}
use Rattle.st_meaning.specs.State.{State, Done}
use Rattle.value_trees.specs.declared.value.Value.{Value as CodeValue}
use Rattle.value_trees.specs.Value.{value_of}

module _ (o known : Operator) (e : Elem) (x y : Value) (line : ℕ) (s : State) (is : o ≡ known) where
  pub gives_as : (w : Value) (v : CodeValue) → operation known e x y line s ≡ Done w s → value_of v ≡ w → operation o e x y line s ≡ Done (value_of v) s
  gives_as w v h k = ap (λ q. operation q e x y line s) is ∙ h ∙ ap (λ z. Done z s) (sym k)
