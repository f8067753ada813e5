-- Bounds of arrays, from what is found out about their expressions.
use Rattle.std.specs.Prelude.{◌≡◌, ℕ, ℤ, int_le, Bool, false, not, if◌then◌else◌, Option, Some, None}
use Rattle.plc_text.specs.declared.code.Code.TheVariants.{E13}
use Rattle.st_tree.specs.declared.type_spec.Bounds.{Bounds}
use Rattle.st_tree.specs.Expression.{Expression, expression_of}
use Rattle.st_rules.specs.declared.asked.Asked.TheVariants.{Anything}
use Rattle.st_rules.specs.Faults.{least, earlier, when}
use Rattle.st_rules.specs.Scope.{Scope}
use Rattle.st_rules.specs.Expressions.{index_unsuited}
use Rattle.st_unit_rules.specs.declared_names.WrittenTypes.{is_number_type, bound_value, bounds_faults, dimension_faults}
use Rattle.st_unit_rules.specs.Initials.{outcome_target, with_note, typed_constant}
use Rattle.st_unit_rules.specs.Checked.{TypedBounds}
use Rattle.constant_folding.specs.constant_values.Outcome.{outcome}
use Rattle.st_check_expr.specs.declared.constants.Constant.{Constant}
use Rattle.check_initial_values.specs.Worth.{noted}
use Rattle.check_declared_variables.specs.declared.type_rules.bounds.CheckedBound.{CheckedBound}
use Rattle.check_declared_variables.specs.declared.type_rules.bounds.CheckedDimension.{CheckedDimension}

-- a number whose names are all told
abbrev pub bound_found : Bool → Bool → Option ℤ → Option ℤ
bound_found is_number told z = if is_number then (if told then z else None) else None

abbrev pub lies_above : Option ℤ → Option ℤ → Bool
lies_above (Some low) (Some high) = not (int_le low high)
lies_above _ _ = false

pub record IsBound (b : CheckedBound) (line : ℕ) (told : Bool) (c : Constant) : Type 0 where
  pub value : b.value ≡ bound_found (is_number_type c.told) told c.number
  pub least : b.least ≡ earlier c.least (least (index_unsuited line c.told))
  pub tree : expression_of b.tree ≡ with_note (noted (outcome_target (outcome c.value))) (expression_of c.tree)

pub record BoundChecks (b : CheckedBound) (s : Scope) (e : Expression ℕ) : Type 0 where
  pub value : b.value ≡ bound_value s e
  pub least : b.least ≡ least (bounds_faults s e)
  pub tree : expression_of b.tree ≡ typed_constant s Anything e

-- bounds of which the lower one, the first, stands at this line
pub record IsDimension (d : CheckedDimension) (line : ℕ) (a b : CheckedBound) : Type 0 where
  pub low : d.low ≡ a.value
  pub high : d.high ≡ b.value
  pub least : d.least ≡ earlier (earlier a.least b.least) (least (when (lies_above a.value b.value) E13 line))
  pub low_tree : d.bounds.low ≡ a.tree
  pub high_tree : d.bounds.high ≡ b.tree

pub record DimensionChecks (d : CheckedDimension) (s : Scope) (b : Bounds ℕ) : Type 0 where
  pub low : d.low ≡ bound_value s (expression_of b.low)
  pub high : d.high ≡ bound_value s (expression_of b.high)
  pub least : d.least ≡ least (dimension_faults s b)
  pub bounds : TypedBounds s b d.bounds
