-- Operators: the operands reach the type of the result, or may be compared.
use Rattle.std.specs.Prelude.{◌≡◌, pos, neg_ℤ}
use Rattle.st_types.specs.declared.elem.Elem.{Elem}
use Rattle.st_types.specs.declared.st_type.StType.{StType}
use Rattle.st_types.specs.declared.st_type.StType.TheVariants as type
use Rattle.st_types.specs.Range.{Fits}
use Rattle.st_types.specs.Widening.{Reaches}
use Rattle.st_tree.specs.declared.expression.Operator.{Operator}
use Rattle.st_tree.specs.declared.expression.Operator.TheVariants as operator
use Rattle.st_tree.specs.declared.program.Note.{Note}
use Rattle.st_tree.specs.Expression.{Expression, Int}
use Rattle.st_tree.specs.Number.{number_of}
use Rattle.st_values.specs.Program.{Program}
use Rattle.st_meaning.specs.st_frame.Promise.Types.{IsElementary, IsBool, IsHeld}

-- both operands reach the type of the result
abbrev pub Common : StType → StType → StType → Type 0
Common t u w = (a b e : Elem) × (t ≡ type.Elementary a) × (u ≡ type.Elementary b) × (w ≡ type.Elementary e) × Reaches a e × Reaches b e

-- numbers, or references and interface values with one another
abbrev pub Comparable : Program → StType → StType → Type 0
Comparable p (type.Elementary a) (type.Elementary b) = Unit {0}
Comparable p (type.Enumeration n) (type.Enumeration m) = n ≡ m
Comparable p t u = IsHeld t × IsHeld u

-- left operand, right operand, result
abbrev pub OperationIs : Program → Operator → StType → StType → StType → Type 0
OperationIs p operator.AndThen t u w = IsBool t × IsBool u × IsBool w
OperationIs p operator.OrElse t u w = IsBool t × IsBool u × IsBool w
OperationIs p operator.Equal t u w = Comparable p t u × IsBool w
OperationIs p operator.Differs t u w = Comparable p t u × IsBool w
OperationIs p operator.Less t u w = IsElementary t × IsElementary u × IsBool w
OperationIs p operator.Greater t u w = IsElementary t × IsElementary u × IsBool w
OperationIs p operator.AtMost t u w = IsElementary t × IsElementary u × IsBool w
OperationIs p operator.AtLeast t u w = IsElementary t × IsElementary u × IsBool w
OperationIs p o t u w = Common t u w

-- `-` directly before an int makes one literal, whose number fits, as SINT has -128 and not 128; else an operand stands behind it
abbrev pub NegatedIs : Note → Expression Note → Type 0 → Type 0
NegatedIs a (Int b digits) operand = (e : Elem) × (a.kind ≡ type.Elementary e) × (b.kind ≡ type.Elementary e) × Fits e (neg_ℤ (pos (number_of digits)))
NegatedIs a e operand = operand
