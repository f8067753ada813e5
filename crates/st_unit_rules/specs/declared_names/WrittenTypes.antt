-- Types as they are written: what they mean, and the rules that they break by themselves (IEC 61131-3:2013, 6.4).
use Rattle.std.specs.Prelude.{ℕ, zero, suc, nat_lt, ℤ, int_le, Bool, false, not, ◌&&◌, if◌then◌else◌, List, [], ◌∷◌, ◌++◌, flat_map, Option, Some, None, option_and_then}
use Rattle.std.specs.Option.{is_some, is_none}
use Rattle.plc_text.specs.declared.code.Code.TheVariants.{E05, E07, E13}
use Rattle.st_types.specs.declared.st_type.StType.{StType}
use Rattle.st_types.specs.declared.st_type.StType.TheVariants as type
use Rattle.st_types.specs.declared.st_type.StType.TheOpen.{StType-F}
use Rattle.st_types.specs.declared.st_type.StType.TheFolds.{fold-StType}
use Rattle.st_tree.specs.declared.type_spec.Bounds.{Bounds}
use Rattle.st_tree.specs.declared.type_spec.SimpleSpec.{SimpleSpec}
use Rattle.st_tree.specs.declared.type_spec.SimpleSpec.TheVariants as spec
use Rattle.st_tree.specs.declared.type_spec.TypeSpec.{TypeSpec}
use Rattle.st_tree.specs.Expression.{Expression, expression_of}
use Rattle.st_rules.specs.declared.asked.Asked.TheVariants.{Anything}
use Rattle.st_rules.specs.declared.names.DeclaredType.{DeclaredType}
use Rattle.st_rules.specs.Faults.{Faults, when}
use Rattle.st_rules.specs.Kinds.{is_number, is_elementary, is_instance}
use Rattle.st_rules.specs.Scope.{Scope, type_named}
use Rattle.st_rules.specs.Expressions.{line_of, type_of, index_unsuited, reference_to}
use Rattle.st_unit_rules.specs.declared_names.Constants.{constant_faults, told_value}

-- arrays within each other, with the outermost one
unfoldable pub array_depth : StType → ℕ
array_depth t = fold-StType ℕ level t
  where
    level : StType-F ℕ → ℕ
    level (StType-F.Array low high n) = suc n
    level _ = zero

-- Of a type with more dimensions than these, the innermost are told.
abbrev pub dimensions_told : ℕ
dimensions_told = 66

abbrev pub in_array : ℤ → ℤ → StType → StType
in_array low high t = if nat_lt (array_depth t) dimensions_told then type.Array low high t else t

-- An array whose lower bound is above the upper one cannot be told.
abbrev pub array_of : Option ℤ → Option ℤ → Option StType → Option StType
array_of (Some low) (Some high) (Some t) = if int_le low high then Some (in_array low high t) else None
array_of _ _ _ = None

abbrev pub is_number_type : Option StType → Bool
is_number_type (Some t) = is_elementary is_number t
is_number_type None = false

-- ARRAY [a..b, c..d] is an array of arrays
abbrev pub dimensions : TypeSpec ℕ → List (Bounds ℕ)
dimensions t = flat_map (λ a. a.bounds) t.arrays

module _ (s : Scope) where
  -- the type that a name means in a type's place, where it is found
  abbrev pub type_declared : List ℕ → Option DeclaredType
  type_declared name = type_named name s.names.types

  abbrev pub named_type : List ℕ → Option StType
  named_type name = option_and_then (λ t. t.kind) (type_declared name)

  -- a bound is a constant integer or bit string; it is asked for no type
  abbrev pub bound_value : Expression ℕ → Option ℤ
  bound_value e = if is_number_type (type_of s Anything e) then told_value s Anything e else None

  abbrev pub element_written : SimpleSpec ℕ → Option StType
  element_written (spec.Elementary l e) = Some (type.Elementary e)
  element_written (spec.Named l name) = named_type name
  element_written (spec.Reference l k name) = option_and_then reference_to (named_type name)

  abbrev pub arrays_of : List (Bounds ℕ) → Option StType → Option StType
  arrays_of [] t = t
  arrays_of (b ∷ bs) t = array_of (bound_value (expression_of b.low)) (bound_value (expression_of b.high)) (arrays_of bs t)

  -- the type that is written, where it can be told
  unfoldable pub type_written : TypeSpec ℕ → Option StType
  type_written t = arrays_of (dimensions t) (element_written t.element)

  -- ---- the rules of a written type

  abbrev pub bounds_faults : Expression ℕ → Faults
  bounds_faults e = constant_faults s Anything e ++ index_unsuited (line_of e) (type_of s Anything e)

  abbrev pub lies_above : Option ℤ → Option ℤ → Bool
  lies_above (Some low) (Some high) = not (int_le low high)
  lies_above _ _ = false

  abbrev pub lower_bound_above : Expression ℕ → Expression ℕ → Faults
  lower_bound_above low high = when (lies_above (bound_value low) (bound_value high)) E13 (line_of low)

  abbrev pub dimension_faults : Bounds ℕ → Faults
  dimension_faults b = bounds_faults (expression_of b.low) ++ bounds_faults (expression_of b.high) ++ lower_bound_above (expression_of b.low) (expression_of b.high)

  abbrev pub type_not_found : ℕ → List ℕ → Faults
  type_not_found line name = when (is_none (type_declared name)) E05 line

  abbrev pub is_instance_told : Option StType → Bool
  is_instance_told None = false
  is_instance_told (Some t) = is_instance t

  -- REF_TO takes the name of a class or a function block, or an alias of one; one that leads to no type at all is none
  abbrev pub reference_to_another_type : ℕ → List ℕ → Faults
  reference_to_another_type line name = when (is_some (type_declared name) && not (is_instance_told (named_type name))) E07 line

  abbrev pub element_faults : SimpleSpec ℕ → Faults
  element_faults (spec.Elementary l e) = []
  element_faults (spec.Named l name) = type_not_found l name
  element_faults (spec.Reference l k name) = type_not_found k name ++ reference_to_another_type k name

  unfoldable pub type_faults : TypeSpec ℕ → Faults
  type_faults t = flat_map dimension_faults (dimensions t) ++ element_faults t.element
