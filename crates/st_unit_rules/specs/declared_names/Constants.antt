-- Values of constant expressions: literals, constants, enumerators, conversions, and operators over them, with the meaning that they
-- have at run time (IEC 61131-3:2013, 6.5.1.4).
use Rattle.std.specs.Prelude.{ℕ, nat_lt, ◌^◌, ℤ, pos, neg_ℤ, int_lt, int_le, Bool, true, false, not, ◌&&◌, if◌then◌else◌, [], ◌++◌, Option, Some, None}
use Rattle.std.specs.Ordering.{int_eq}
use Rattle.plc_text.specs.declared.code.Code.TheVariants.{E05, E13}
use Rattle.st_types.specs.declared.elem.Elem.{Elem}
use Rattle.st_types.specs.declared.elem.Elem.TheVariants as kind
use Rattle.st_types.specs.declared.st_type.StType.{StType}
use Rattle.st_types.specs.declared.st_type.StType.TheVariants as type
use Rattle.plc_num.specs.Arithmetic.{sum, difference, product, quotient, remainder}
use Rattle.plc_num.specs.Bits.{conjunction, disjunction, exclusive_disjunction, complement}
use Rattle.plc_num.specs.Conversion.{converted}
use Rattle.st_tree.specs.declared.expression.Operator.{Operator}
use Rattle.st_tree.specs.declared.expression.Operator.TheVariants as operator
use Rattle.st_tree.specs.declared.expression.Root.{Root}
use Rattle.st_tree.specs.declared.expression.Root.TheVariants as root
use Rattle.st_tree.specs.declared.program.Target.{Target}
use Rattle.st_tree.specs.declared.program.Target.TheVariants as target
use Rattle.st_tree.specs.Duration.{milliseconds}
use Rattle.st_tree.specs.Expression.{Expression, Int, Typed, Time, True, False, Null, Place, Call, Enumerator, Ref, Now, Paren, Not, Negate, Chain, Field, Selectors, no_selectors, selector_then, Positional, Input, Output, Arguments, no_arguments, argument_then, Tails, no_tails, tail_then}
use Rattle.st_tree.specs.Number.{number_of}
use Rattle.st_rules.specs.declared.asked.Asked.{Asked}
use Rattle.st_rules.specs.declared.asked.Asked.TheVariants.{Anything}
use Rattle.st_rules.specs.Faults.{Faults, at, when}
use Rattle.st_rules.specs.Kinds.{is_arithmetic, operation_type, unary_type, takes_not, takes_minus}
use Rattle.st_rules.specs.Literals.{number_asked, literal_number}
use Rattle.st_rules.specs.Scope.{Scope, Meant, a_variable, an_enumerator, sought, type_qualifier, dot_qualifier}
use Rattle.st_rules.specs.Places.{root_line, qualifies}
use Rattle.st_rules.specs.Calls.{Callee, a_conversion, callee, heads, first_match, asked_by, call_matches, value_unsuited}
use Rattle.st_rules.specs.Expressions.{line_of, is_untyped, front_asked, operand_asked, asked_behind, type_of, note_of_value, whole_target, is_conversion, faults, too_many_operators}

-- what a constant expression comes to
pub data Outcome : Type 0 where
  comes_to : ℤ → Outcome
  -- a zero divisor ends it, in the row of operators at this line
  divides_by_zero : ℕ → Outcome
  cannot_be_told : Outcome

abbrev pub is_zero : ℤ → Bool
is_zero z = int_eq z (pos 0)

abbrev pub truth : Bool → ℤ
truth true = pos 1
truth false = pos 0

-- ---- operators

abbrev pub is_division : Operator → Bool
is_division operator.Divide = true
is_division operator.Modulo = true
is_division _ = false

-- of two numbers, in the kind of the operation; of a division, where the divisor is not zero
abbrev pub result_of : Operator → Elem → ℤ → ℤ → ℤ
result_of operator.Plus e a b = sum e a b
result_of operator.Minus e a b = difference e a b
result_of operator.Times e a b = product e a b
result_of operator.Divide e a b = quotient e a b
result_of operator.Modulo e a b = remainder e a b
result_of operator.And e a b = conjunction e a b
result_of operator.Or e a b = disjunction e a b
result_of operator.Xor e a b = exclusive_disjunction e a b
result_of operator.AndThen e a b = b
result_of operator.OrElse e a b = b
result_of operator.Equal e a b = truth (int_eq a b)
result_of operator.Differs e a b = truth (not (int_eq a b))
result_of operator.Less e a b = truth (int_lt a b)
result_of operator.Greater e a b = truth (int_lt b a)
result_of operator.AtMost e a b = truth (int_le a b)
result_of operator.AtLeast e a b = truth (int_le b a)

-- both operands are evaluated, the left one first; a zero divisor counts where the dividend cannot be told, too
abbrev pub both : Operator → Elem → ℕ → Outcome → Outcome → Outcome
both o e line (divides_by_zero l) y = divides_by_zero l
both o e line (comes_to a) (comes_to b) = if is_division o && is_zero b then divides_by_zero line else comes_to (result_of o e a b)
both o e line cannot_be_told (comes_to b) = if is_division o && is_zero b then divides_by_zero line else cannot_be_told
both o e line x (divides_by_zero l) = divides_by_zero l
both o e line x y = cannot_be_told

-- the right operand is evaluated where the left one does not decide
abbrev pub if_true : Outcome → Outcome → Outcome
if_true (comes_to a) y = if is_zero a then comes_to a else y
if_true x y = x

abbrev pub if_false : Outcome → Outcome → Outcome
if_false (comes_to a) y = if is_zero a then y else comes_to a
if_false x y = x

abbrev pub operated : Operator → Elem → ℕ → Outcome → Outcome → Outcome
operated operator.AndThen e line x y = if_true x y
operated operator.OrElse e line x y = if_false x y
operated o e line x y = both o e line x y

abbrev pub outcome_map : (ℤ → ℤ) → Outcome → Outcome
outcome_map f (comes_to a) = comes_to (f a)
outcome_map f x = x

-- ---- the value

-- the kind of an operation; one that cannot be told breaks a rule of its own
abbrev pub kind_in : Option StType → Elem
kind_in (Some (type.Elementary e)) = e
kind_in _ = kind.Dint

-- A literal past 64 bits stands for no number: no kind has it, so it breaks a rule by itself.
abbrev pub literal_outcome : ℤ → Outcome
literal_outcome z = if int_le (neg_ℤ (pos 9223372036854775808)) z && int_le z (pos 18446744073709551615) then comes_to z else cannot_be_told

-- Nor does a duration past 32 bits.
abbrev pub duration_outcome : ℕ → Outcome
duration_outcome n = if nat_lt n (2 ^ 32) then comes_to (pos n) else cannot_be_told

abbrev pub target_value : Target → Outcome
target_value (target.Constant z) = comes_to z
target_value (target.Enumerator k) = comes_to (pos k)
target_value _ = cannot_be_told

abbrev pub converted_value : Callee → Outcome → Outcome
converted_value (a_conversion a b) x = outcome_map (converted b) x
converted_value _ x = cannot_be_told

-- a constant whose value is told, or an enumerator
abbrev pub is_told : Target → Bool
is_told (target.Constant z) = true
is_told (target.Enumerator k) = true
is_told _ = false

abbrev pub if_none : Faults → Outcome → Option ℤ
if_none [] (comes_to z) = Some z
if_none _ _ = None

module _ (s : Scope) where
  abbrev mutual
    pub constant_value : Asked → Expression ℕ → Outcome
    constant_value asked (Int l digits) = literal_outcome (pos (number_of digits))
    constant_value asked (Typed l k literal) = literal_outcome (literal_number literal)
    constant_value asked (Time l text) = duration_outcome (milliseconds text)
    constant_value asked (True l) = comes_to (pos 1)
    constant_value asked (False l) = comes_to (pos 0)
    constant_value asked (Null l) = comes_to (pos 0)
    constant_value asked (Place l r ss) = target_value (whole_target s r ss)
    constant_value asked (Call l r ss xs) =
        let called = callee s r ss in
        converted_value called (operand_value (asked_by (first_match (call_matches s called (heads xs)))) xs)
    constant_value asked (Enumerator l t k name) = target_value (note_of_value s (type_qualifier s t) name)
    constant_value asked (Ref l r ss) = cannot_be_told
    constant_value asked (Now l) = cannot_be_told
    constant_value asked (Paren l e) = constant_value asked e
    constant_value asked (Not l e) = outcome_map (complement (kind_in (unary_type takes_not (type_of s Anything e)))) (constant_value Anything e)
    constant_value asked (Negate l (Int k digits)) = literal_outcome (neg_ℤ (pos (number_of digits)))
    constant_value asked (Negate l e) =
        let inner = front_asked (is_untyped e) (number_asked asked) in
        outcome_map (difference (kind_in (unary_type takes_minus (type_of s inner e))) (pos 0)) (constant_value inner e)
    constant_value asked (Chain l e ts) =
        let front = front_asked (is_untyped e) (asked_behind s asked ts) in
        row_value (is_untyped e) front (type_of s front e) (constant_value front e) ts

    -- of a row of operators: its type and its value so far
    pub row_value : Bool → Asked → Option StType → Outcome → Tails ℕ → Outcome
    row_value untyped asked t x no_tails = x
    row_value untyped asked t x (tail_then l o e ts) =
        let inner = operand_asked untyped (is_untyped e) asked t in
        let u = operation_type o t (type_of s inner e) in
        row_value (is_arithmetic o && untyped && is_untyped e) asked u (operated o (kind_in u) l x (constant_value inner e)) ts

    -- the operand of a conversion
    pub operand_value : Asked → Arguments ℕ → Outcome
    operand_value asked (argument_then (Positional e) xs) = constant_value asked e
    operand_value asked xs = cannot_be_told

  -- ---- the rules of constant expressions

  abbrev pub is_constant_meaning : Option Meant → Bool
  is_constant_meaning (Some (a_variable c v)) = v.constant
  is_constant_meaning (Some (an_enumerator n k)) = true
  is_constant_meaning _ = false

  -- a constant, an enumerator, or an enumerator behind the name of its type
  abbrev pub is_constant_place : Root ℕ → Selectors ℕ → Bool
  is_constant_place (root.Name l name) no_selectors = is_constant_meaning (sought s false name)
  is_constant_place (root.Name l name) (selector_then (Field k n) no_selectors) = qualifies s (dot_qualifier s name)
  is_constant_place r ss = false

  abbrev pub no_constant_place : Root ℕ → Selectors ℕ → Faults
  no_constant_place r ss = when (not (is_constant_place r ss)) E05 (root_line r)

  -- a part that is no constant: a variable, a call of a routine, THIS, TIME(), REF, an index
  abbrev mutual
    pub no_constant_part : Expression ℕ → Faults
    no_constant_part (Place l r ss) = no_constant_place r ss
    no_constant_part (Call l r ss xs) = if is_conversion s r ss then no_constant_argument xs else at E05 l
    no_constant_part (Ref l r ss) = at E05 l
    no_constant_part (Now l) = at E05 l
    no_constant_part (Paren l e) = no_constant_part e
    no_constant_part (Not l e) = no_constant_part e
    no_constant_part (Negate l e) = no_constant_part e
    no_constant_part (Chain l e ts) = no_constant_part e ++ no_constant_operand ts
    no_constant_part _ = []

    pub no_constant_operand : Tails ℕ → Faults
    no_constant_operand no_tails = []
    no_constant_operand (tail_then l o e ts) = no_constant_part e ++ no_constant_operand ts

    pub no_constant_argument : Arguments ℕ → Faults
    no_constant_argument no_arguments = []
    no_constant_argument (argument_then (Positional e) xs) = no_constant_part e ++ no_constant_argument xs
    no_constant_argument (argument_then (Input l name e) xs) = no_constant_part e ++ no_constant_argument xs
    no_constant_argument (argument_then (Output l name k r ss) xs) = no_constant_place r ss ++ no_constant_argument xs

  abbrev pub zero_divisor : Outcome → Faults
  zero_divisor (divides_by_zero l) = at E13 l
  zero_divisor _ = []

  -- what an expression breaks, where a constant is wanted, but for the number of its operators, which leaves its value told
  abbrev pub value_faults : Asked → Expression ℕ → Faults
  value_faults asked e = faults s asked e ++ value_unsuited s (line_of e) asked (type_of s asked e) ++ no_constant_part e ++ zero_divisor (constant_value asked e)

  -- an expression where a constant is wanted
  unfoldable pub constant_faults : Asked → Expression ℕ → Faults
  constant_faults asked e = value_faults asked e ++ too_many_operators e

  -- ---- what is told

  -- Every name in the expression is told, also behind an AND_THEN or an OR_ELSE that skips it. What is not told yet breaks no rule, but may
  -- break one when it is told: so with less asked here, a value could be told and then be taken back, for ever on a cycle.
  abbrev mutual
    pub names_are_told : Expression ℕ → Bool
    names_are_told (Place l r ss) = is_told (whole_target s r ss)
    names_are_told (Enumerator l t k name) = is_told (note_of_value s (type_qualifier s t) name)
    names_are_told (Call l r ss xs) = arguments_are_told xs
    names_are_told (Paren l e) = names_are_told e
    names_are_told (Not l e) = names_are_told e
    names_are_told (Negate l e) = names_are_told e
    names_are_told (Chain l e ts) = names_are_told e && operands_are_told ts
    names_are_told _ = true

    pub operands_are_told : Tails ℕ → Bool
    operands_are_told no_tails = true
    operands_are_told (tail_then l o e ts) = names_are_told e && operands_are_told ts

    pub arguments_are_told : Arguments ℕ → Bool
    arguments_are_told no_arguments = true
    arguments_are_told (argument_then (Positional e) xs) = names_are_told e && arguments_are_told xs
    arguments_are_told (argument_then (Input l name e) xs) = names_are_told e && arguments_are_told xs
    arguments_are_told (argument_then (Output l name k r ss) xs) = is_told (whole_target s r ss) && arguments_are_told xs

  -- the value where every name is told and no rule of values is broken
  unfoldable pub told_value : Asked → Expression ℕ → Option ℤ
  told_value asked e = if names_are_told e then if_none (value_faults asked e) (constant_value asked e) else None
