-- Numbers and truth, literals, and what operators give (IEC 61131-3:2013, 6.3.2, 6.6.2.5 and table 71).
use Rattle.std.specs.Prelude.{ℕ, zero, ℤ, pos, neg_ℤ, int_lt, int_le, Bool, true, false, not, ◌&&◌, nat_eq, List, [], ◌∷◌, Option, Some, None}
use Rattle.std.specs.Ordering.{int_eq}
use Rattle.plc_text.specs.declared.fault.FaultKind.TheVariants as fault
use Rattle.st_types.specs.declared.elem.Elem.{Elem}
use Rattle.st_types.specs.declared.elem.Elem.TheVariants as elem
use Rattle.st_types.specs.declared.st_type.StType.{StType}
use Rattle.st_types.specs.declared.st_type.StType.TheVariants as type
use Rattle.plc_num.specs.Arithmetic.{sum, difference, product, quotient, remainder}
use Rattle.plc_num.specs.Bits.{conjunction, disjunction, exclusive_disjunction}
use Rattle.st_tree.specs.declared.expression.Literal.{Literal}
use Rattle.st_tree.specs.declared.expression.Literal.TheVariants as literal
use Rattle.st_tree.specs.declared.expression.Operator.{Operator}
use Rattle.st_tree.specs.declared.expression.Operator.TheVariants as operator
use Rattle.st_tree.specs.Number.{number_of}
use Rattle.st_tree.specs.declared.path.Path.{Path}
use Rattle.st_tree.specs.declared.path.Step.{Step}
use Rattle.st_tree.specs.declared.path.Step.TheVariants as step
use Rattle.st_values.specs.Value.{Value, number, reference, instance}
use Rattle.st_meaning.specs.State.{Run, gives, fails}

abbrev pub number_in : Value → ℤ
number_in (number z) = z
number_in _ = pos 0

-- the path that a reference or an interface variable holds
abbrev pub path_in : Value → Option Path
path_in (reference o) = o
path_in _ = None

-- the name of an instance's class
abbrev pub class_in : Value → Option (List ℕ)
class_in (instance c ms) = Some c
class_in _ = None

abbrev pub is_true : Value → Bool
is_true (number (pos zero)) = false
is_true _ = true

abbrev pub truth : Bool → Value
truth true = number (pos 1)
truth false = number (pos 0)

-- the elementary type in which a number is taken
abbrev pub elem_of : StType → Elem
elem_of (type.Elementary e) = e
elem_of _ = elem.Dint

-- a literal behind its type
abbrev pub literal_value : Literal → ℤ
literal_value (literal.Int digits) = pos (number_of digits)
literal_value (literal.Negative digits) = neg_ℤ (pos (number_of digits))
literal_value literal.True = pos 1
literal_value literal.False = pos 0

abbrev pub same_step : Step → Step → Bool
same_step (step.Field i) (step.Field j) = nat_eq i j
same_step (step.Element i) (step.Element j) = int_eq i j
same_step _ _ = false

abbrev pub same_steps : List Step → List Step → Bool
same_steps [] [] = true
same_steps (s ∷ ss) (t ∷ ts) = same_step s t && same_steps ss ts
same_steps _ _ = false

-- whether both name one instance, or both are NULL
abbrev pub same_path : Option Path → Option Path → Bool
same_path None None = true
same_path (Some q) (Some r) = nat_eq q.region r.region && same_steps q.steps r.steps
same_path _ _ = false

abbrev pub same_value : Value → Value → Bool
same_value (number a) (number b) = int_eq a b
same_value (reference a) (reference b) = same_path a b
same_value _ _ = false

abbrev pub divided : (Elem → ℤ → ℤ → ℤ) → Elem → ℤ → ℤ → Run Value
divided f e a (pos zero) = fails fault.Divide
divided f e a b = gives (number (f e a b))

-- What an operator gives for its two operands, in the elementary type of the result.
abbrev pub operation : Operator → Elem → Value → Value → Run Value
operation operator.Plus e x y = gives (number (sum e (number_in x) (number_in y)))
operation operator.Minus e x y = gives (number (difference e (number_in x) (number_in y)))
operation operator.Times e x y = gives (number (product e (number_in x) (number_in y)))
operation operator.Divide e x y = divided quotient e (number_in x) (number_in y)
operation operator.Modulo e x y = divided remainder e (number_in x) (number_in y)
operation operator.And e x y = gives (number (conjunction e (number_in x) (number_in y)))
operation operator.Or e x y = gives (number (disjunction e (number_in x) (number_in y)))
operation operator.Xor e x y = gives (number (exclusive_disjunction e (number_in x) (number_in y)))
operation operator.AndThen e x y = gives y
operation operator.OrElse e x y = gives y
operation operator.Equal e x y = gives (truth (same_value x y))
operation operator.Differs e x y = gives (truth (not (same_value x y)))
operation operator.Less e x y = gives (truth (int_lt (number_in x) (number_in y)))
operation operator.Greater e x y = gives (truth (int_lt (number_in y) (number_in x)))
operation operator.AtMost e x y = gives (truth (int_le (number_in x) (number_in y)))
operation operator.AtLeast e x y = gives (truth (int_le (number_in y) (number_in x)))

-- whether the left operand alone decides
abbrev pub is_decided : Operator → Value → Bool
is_decided operator.AndThen x = not (is_true x)
is_decided operator.OrElse x = is_true x
is_decided _ x = false
