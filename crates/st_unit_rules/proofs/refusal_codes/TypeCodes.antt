-- Constant expressions and written types break no rule of the code E17.
use Rattle.std.proofs.Common.{refl}
use Rattle.std.specs.Prelude.{ℕ}
use Rattle.plc_text.specs.declared.code.Code.TheVariants.{E05, E07, E13, E16}
use Rattle.st_tree.specs.declared.type_spec.Bounds.{Bounds}
use Rattle.st_tree.specs.declared.type_spec.SimpleSpec.{SimpleSpec}
use Rattle.st_tree.specs.declared.type_spec.SimpleSpec.TheVariants as spec
use Rattle.st_tree.specs.declared.type_spec.TypeSpec.{TypeSpec}
use Rattle.st_tree.specs.Expression.{Expression, Place, Call, Ref, Now, Paren, Not, Negate, Chain, Positional, Input, Output, Arguments, no_arguments, argument_then, Tails, no_tails, tail_then, expression_of}
use Rattle.st_rules.specs.declared.asked.Asked.{Asked}
use Rattle.st_rules.specs.declared.asked.Asked.TheVariants.{Anything}
use Rattle.st_rules.specs.Scope.{Scope}
use Rattle.st_rules.specs.Expressions.{line_of, type_of}
use Rattle.st_unit_rules.specs.declared_names.Constants.{constant_value, no_constant_part, no_constant_operand, no_constant_argument, zero_divisor, value_faults, constant_faults, divides_by_zero, Outcome}
use Rattle.st_unit_rules.specs.declared_names.WrittenTypes.{dimensions, bounds_faults, dimension_faults, element_faults, type_faults}
use Rattle.st_unit_rules.proofs.refusal_codes.FaultWords.{Usual, none, ◌also◌, broken, if_broken, either, of_each}
use Rattle.st_unit_rules.proofs.refusal_codes.CallCodes.{value_unsuited_usual}
use Rattle.st_unit_rules.proofs.refusal_codes.ExpressionCodes.{faults_usual, index_unsuited_usual}

-- ---- constant expressions

module _ (s : Scope) where
  mutual
    no_constant_part_usual : (e : Expression ℕ) → Usual (no_constant_part s e)
    no_constant_part_usual (Place l r ss) = if_broken _ E05 _ refl
    no_constant_part_usual (Call l r ss xs) = either _ (no_constant_argument_usual xs) (broken E05 _ refl)
    no_constant_part_usual (Ref l r ss) = broken E05 _ refl
    no_constant_part_usual (Now l) = broken E05 _ refl
    no_constant_part_usual (Paren l e) = no_constant_part_usual e
    no_constant_part_usual (Not l e) = no_constant_part_usual e
    no_constant_part_usual (Negate l e) = no_constant_part_usual e
    no_constant_part_usual (Chain l e ts) = no_constant_part_usual e also no_constant_operand_usual ts
    no_constant_part_usual _ = none

    no_constant_operand_usual : (x : Tails ℕ) → Usual (no_constant_operand s x)
    no_constant_operand_usual no_tails = none
    no_constant_operand_usual (tail_then l o e ts) = no_constant_part_usual e also no_constant_operand_usual ts

    no_constant_argument_usual : (xs : Arguments ℕ) → Usual (no_constant_argument s xs)
    no_constant_argument_usual no_arguments = none
    no_constant_argument_usual (argument_then (Positional e) xs) = no_constant_part_usual e also no_constant_argument_usual xs
    no_constant_argument_usual (argument_then (Input l name e) xs) = no_constant_part_usual e also no_constant_argument_usual xs
    no_constant_argument_usual (argument_then (Output l name k r ss) xs) = if_broken _ E05 _ refl also no_constant_argument_usual xs

  zero_divisor_usual : (o : Outcome) → Usual (zero_divisor s o)
  zero_divisor_usual (divides_by_zero l) = broken E13 _ refl
  zero_divisor_usual _ = none

  value_faults_usual : (asked : Asked) (e : Expression ℕ) → Usual (value_faults s asked e)
  value_faults_usual asked e =
      faults_usual s asked e
      also value_unsuited_usual s (line_of e) asked (type_of s asked e)
      also no_constant_part_usual e
      also zero_divisor_usual (constant_value s asked e)

  pub constant_faults_usual : (asked : Asked) (e : Expression ℕ) → Usual (constant_faults s asked e)
  unfolding constant_faults
  constant_faults_usual asked e = value_faults_usual asked e also if_broken _ E16 _ refl

-- ---- written types

module _ (s : Scope) where
  bounds_faults_usual : (e : Expression ℕ) → Usual (bounds_faults s e)
  bounds_faults_usual e = constant_faults_usual s Anything e also index_unsuited_usual (line_of e) (type_of s Anything e)

  dimension_faults_usual : (b : Bounds ℕ) → Usual (dimension_faults s b)
  dimension_faults_usual b = bounds_faults_usual (expression_of b.low) also bounds_faults_usual (expression_of b.high) also if_broken _ E13 _ refl

  element_faults_usual : (x : SimpleSpec ℕ) → Usual (element_faults s x)
  element_faults_usual (spec.Elementary l e) = none
  element_faults_usual (spec.Named l name) = if_broken _ E05 _ refl
  element_faults_usual (spec.Reference l k name) = if_broken _ E05 _ refl also if_broken _ E07 _ refl

  pub type_faults_usual : (t : TypeSpec ℕ) → Usual (type_faults s t)
  unfolding type_faults
  type_faults_usual t = of_each _ dimension_faults_usual (dimensions t) also element_faults_usual t.element
