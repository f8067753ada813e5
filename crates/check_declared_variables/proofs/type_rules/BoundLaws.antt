-- Bounds from what is found out about their expressions.
use Rattle.std.proofs.Common.{◌≡◌, ℕ, ℤ, Bool, ◌++◌, Option, Some, None, refl, ap, ◌∙◌}
use Rattle.plc_text.specs.declared.code.Code.TheVariants.{E13}
use Rattle.st_tree.specs.declared.type_spec.Bounds.{Bounds}
use Rattle.st_tree.specs.Expression.{Expression, expression_of}
use Rattle.st_rules.specs.declared.asked.Asked.TheVariants.{Anything}
use Rattle.st_rules.specs.Faults.{least, earlier, when}
use Rattle.st_rules.specs.Scope.{Scope}
use Rattle.st_rules.specs.Expressions.{line_of, type_of, index_unsuited}
use Rattle.st_unit_rules.specs.declared_names.Constants.{if_none, constant_value, value_faults, constant_faults, told_value, names_are_told}
use Rattle.st_unit_rules.specs.declared_names.WrittenTypes.{is_number_type, bound_value, bounds_faults, lies_above}
use Rattle.st_unit_rules.specs.Initials.{outcome_target, with_note}
use Rattle.st_check_expr.specs.declared.constants.Constant.{Constant}
use Rattle.st_check_expr.specs.Constants.{IsConstant}
use Rattle.check_initial_values.specs.Worth.{noted}
use Rattle.check_initial_values.proofs.Parts.{joined}
use Rattle.check_declared_variables.specs.declared.type_rules.bounds.CheckedBound.{CheckedBound}
use Rattle.check_declared_variables.specs.declared.type_rules.bounds.CheckedDimension.{CheckedDimension}
use Rattle.check_declared_variables.specs.type_rules.Private.Bounds.{bound_found, lies_above as above, IsBound, BoundChecks, IsDimension, DimensionChecks}

module _ (s : Scope) (e : Expression ℕ) where
  value_is : bound_found (is_number_type (type_of s Anything e)) (names_are_told s e) (if_none (value_faults s Anything e) (constant_value s Anything e)) ≡ bound_value s e
  unfolding told_value
  value_is = refl

  pub bound_checks : (b : CheckedBound) (line : ℕ) (told : Bool) (c : Constant) → line ≡ line_of e → told ≡ names_are_told s e → IsConstant c s Anything e → IsBound b line told c → BoundChecks b s e
  bound_checks b line told c l h k w = record {
    value = w.value
        ∙ ap (λ t. bound_found (is_number_type t) told c.number) k.told
        ∙ ap (λ y. bound_found (is_number_type (type_of s Anything e)) y c.number) h
        ∙ ap (bound_found (is_number_type (type_of s Anything e)) (names_are_told s e)) k.number
        ∙ value_is;
    least = joined b.least c.least (least (index_unsuited line c.told)) (constant_faults s Anything e) (index_unsuited (line_of e) (type_of s Anything e)) w.least k.least
        (ap (λ n. least (index_unsuited n c.told)) l ∙ ap (λ t. least (index_unsuited (line_of e) t)) k.told);
    tree = w.tree
        ∙ ap (λ v. with_note (noted (outcome_target v)) (expression_of c.tree)) k.value
        ∙ ap (with_note (noted (outcome_target (constant_value s Anything e)))) k.tree;
  }

above_is : (s : Scope) (low high : Option ℤ) → above low high ≡ lies_above s low high
above_is s None high = refl
above_is s (Some a) None = refl
above_is s (Some a) (Some b) = refl

pub dimension_checks : (s : Scope) (b : Bounds ℕ) (d : CheckedDimension) (x y : CheckedBound) (line : ℕ) → line ≡ line_of (expression_of b.low) → BoundChecks x s (expression_of b.low) → BoundChecks y s (expression_of b.high) → IsDimension d line x y → DimensionChecks d s b
dimension_checks s b d x y line l f g w =
    let e = expression_of b.low in
    let u = expression_of b.high in
    record {
      low = w.low ∙ f.value;
      high = w.high ∙ g.value;
      least = joined d.least (earlier x.least y.least) (least (when (above x.value y.value) E13 line)) (bounds_faults s e ++ bounds_faults s u) (when (lies_above s (bound_value s e) (bound_value s u)) E13 (line_of e)) w.least
          (joined (earlier x.least y.least) x.least y.least (bounds_faults s e) (bounds_faults s u) refl f.least g.least)
          (ap (λ c. least (when c E13 line)) (above_is s x.value y.value ∙ ap (λ v. lies_above s v y.value) f.value ∙ ap (lies_above s (bound_value s e)) g.value)
          ∙ ap (λ n. least (when (lies_above s (bound_value s e) (bound_value s u)) E13 n)) l);
      bounds = record {
        low = ap expression_of w.low_tree ∙ f.tree;
        high = ap expression_of w.high_tree ∙ g.tree;
      };
    }
