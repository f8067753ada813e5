-- A number that is made of two numbers.
use Rattle.std.proofs.Common.{◌≡◌, ℤ, ap, ◌∙◌}
use Rattle.std.specs.Prelude.{FitsSigned}
use Rattle.std.specs.Int.{w128, cast_signed as to_z, cast_unsigned as of_z}
use Rattle.std.proofs.lemmas.Int.{to_z-of_z}
use Rattle.st_types.specs.declared.elem.Elem.{Elem}
use Rattle.st_values.specs.Value.{number}
use Rattle.value_trees.specs.declared.value.Value.TheVariants as code
use Rattle.value_trees.specs.Value.{value_of, value-Number}

pub combined : (o : Elem → ℤ → ℤ → ℤ) (e : Elem) (a b x y r : ℤ) → FitsSigned w128 a → FitsSigned w128 b → FitsSigned w128 r → a ≡ x → b ≡ y
    → r ≡ o e (to_z w128 (of_z w128 a)) (to_z w128 (of_z w128 b)) → value_of (code.Number (to_z w128 (of_z w128 r))) ≡ number (o e x y)
combined o e a b x y r f g k p q h =
    value-Number (to_z w128 (of_z w128 r)) ∙ ap number (to_z-of_z w128 r k ∙ h ∙ (λ i. o e (to_z-of_z w128 a f i) (to_z-of_z w128 b g i)) ∙ (λ i. o e (p i) (q i)))
