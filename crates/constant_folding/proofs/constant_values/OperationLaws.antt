-- Operators by whether the left operand may decide.
use Rattle.std.proofs.Common.{◌≡◌, ℕ, Bool, true, false, Option, Some, None, refl, ap, ◌∙◌}
use Rattle.st_types.specs.declared.elem.Elem.{Elem}
use Rattle.st_tree.specs.declared.expression.Operator.{Operator}
use Rattle.st_tree.specs.declared.expression.Operator.TheVariants as operator
use Rattle.st_unit_rules.specs.declared_names.Constants.{Outcome, operated, both, if_true, if_false}
use Rattle.constant_folding.specs.constant_values.Private.Operations.{evaluates_if, operated_if}

operated-is : (o : Operator) (e : Elem) (line : ℕ) (x y : Outcome) → operated_if (evaluates_if o) o e line x y ≡ operated o e line x y
operated-is operator.AndThen e line x y = refl
operated-is operator.OrElse e line x y = refl
operated-is operator.Or e line x y = refl
operated-is operator.Xor e line x y = refl
operated-is operator.And e line x y = refl
operated-is operator.Equal e line x y = refl
operated-is operator.Differs e line x y = refl
operated-is operator.Less e line x y = refl
operated-is operator.Greater e line x y = refl
operated-is operator.AtMost e line x y = refl
operated-is operator.AtLeast e line x y = refl
operated-is operator.Plus e line x y = refl
operated-is operator.Minus e line x y = refl
operated-is operator.Times e line x y = refl
operated-is operator.Divide e line x y = refl
operated-is operator.Modulo e line x y = refl

-- what was found by what may decide is what the operator gives
pub operated_by : (o : Operator) (e : Elem) (line : ℕ) (x y r : Outcome) (d : Option Bool) → d ≡ evaluates_if o → r ≡ operated_if d o e line x y → r ≡ operated o e line x y
operated_by o e line x y r d q h = h ∙ ap (λ c. operated_if c o e line x y) q ∙ operated-is o e line x y
