-- Literals: the types that they take, and whether they fit (IEC 61131-3:2013, 6.3.2).
use Rattle.std.specs.Prelude.{ℕ, nat_le, nat_lt, ℤ, pos, neg_ℤ, int_le, Bool, true, false, not, ◌&&◌, ◌||◌, ◌++◌, if◌then◌else◌, List, [], Option, Some, None}
use Rattle.plc_text.specs.declared.code.Code.TheVariants.{E07, E13}
use Rattle.st_types.specs.declared.elem.Elem.{Elem}
use Rattle.st_types.specs.declared.elem.Elem.TheVariants as kind
use Rattle.st_types.specs.Range.{lowest, highest}
use Rattle.st_types.specs.declared.st_type.StType.{StType}
use Rattle.st_types.specs.declared.st_type.StType.TheVariants as type
use Rattle.st_tree.specs.declared.expression.Literal.{Literal}
use Rattle.st_tree.specs.declared.expression.Literal.TheVariants as literal
use Rattle.st_tree.specs.Number.{number_of}
use Rattle.st_tree.specs.Duration.{milliseconds}
use Rattle.st_rules.specs.declared.asked.Asked.{Asked}
use Rattle.st_rules.specs.declared.asked.Asked.TheVariants.{Anything, Wanted, Untold}
use Rattle.st_rules.specs.Faults.{Faults, when}
use Rattle.st_rules.specs.Kinds.{dint, is_bool, is_number, is_elementary}

-- ---- what a place asks for

-- a place of this type, where it can be told
unfoldable pub asked_of : Option StType → Asked
asked_of None = Untold
asked_of (Some t) = Wanted t

-- what an untyped operation asks its operands for, from what it is asked for: integers and bit strings alone are taken
unfoldable pub number_asked : Asked → Asked
number_asked (Wanted t) = if is_elementary is_number t then Wanted t else Anything
number_asked a = a

-- ---- ints

-- the type that an int takes: the one that is asked for, where it is a type of integers or bit strings, or BOOL and the int is 0 or 1;
-- else DINT
abbrev pub int_taken : StType → ℕ → StType
int_taken t n = if is_elementary is_number t || is_elementary is_bool t && nat_le n 1 then t else dint

unfoldable pub int_type : Asked → List ℕ → Option StType
int_type Anything digits = Some dint
int_type (Wanted t) digits = Some (int_taken t (number_of digits))
int_type Untold digits = None

-- `-` directly before an int makes one literal; it is never BOOL
abbrev pub negative_taken : StType → StType
negative_taken t = if is_elementary is_number t then t else dint

unfoldable pub negative_type : Asked → Option StType
negative_type Anything = Some dint
negative_type (Wanted t) = Some (negative_taken t)
negative_type Untold = None

abbrev pub holds : Elem → ℤ → Bool
holds e v = int_le (lowest e) v && int_le v (highest e)

abbrev pub fits_type : StType → ℤ → Bool
fits_type (type.Elementary e) v = holds e v
fits_type _ v = true

-- an int has 64 bits at most, whatever is asked for
abbrev pub past_64_bits : ℕ → ℕ → Faults
past_64_bits line n = when (nat_lt 18_446_744_073_709_551_615 n) E13 line

-- an int does not fit its type
abbrev pub number_past_its_type : ℕ → ℤ → Option StType → Faults
number_past_its_type line v None = []
number_past_its_type line v (Some t) = when (not (fits_type t v)) E13 line

-- an int that takes this type; nothing is told where the type cannot be told
unfoldable pub int_faults : ℕ → List ℕ → Option StType → Faults
int_faults line digits t = past_64_bits line (number_of digits) ++ number_past_its_type line (pos (number_of digits)) t

-- the same with its sign
unfoldable pub negative_faults : ℕ → List ℕ → Option StType → Faults
negative_faults line digits t = past_64_bits line (number_of digits) ++ number_past_its_type line (neg_ℤ (pos (number_of digits))) t

-- ---- typed literals

-- a truth value of another kind than BOOL
abbrev pub is_wrong_truth : Elem → Literal → Bool
is_wrong_truth e (literal.Int digits) = false
is_wrong_truth e (literal.Negative digits) = false
is_wrong_truth e literal.True = not (is_bool e)
is_wrong_truth e literal.False = not (is_bool e)

abbrev pub literal_number : Literal → ℤ
literal_number (literal.Int digits) = pos (number_of digits)
literal_number (literal.Negative digits) = neg_ℤ (pos (number_of digits))
literal_number literal.True = pos 1
literal_number literal.False = pos 0

unfoldable pub typed_literal_type : Elem → Literal → Option StType
typed_literal_type e l = if is_wrong_truth e l then None else Some (type.Elementary e)

abbrev pub truth_of_another_kind : ℕ → Elem → Literal → Faults
truth_of_another_kind line e l = when (is_wrong_truth e l) E07 line

abbrev pub literal_past_its_kind : ℕ → Elem → Literal → Faults
literal_past_its_kind line e l = when (not (is_wrong_truth e l) && not (holds e (literal_number l))) E13 line

unfoldable pub typed_literal_faults : ℕ → Elem → Literal → Faults
typed_literal_faults line e l = truth_of_another_kind line e l ++ literal_past_its_kind line e l

-- ---- durations and NULL

unfoldable pub time_past_32_bits : ℕ → List ℕ → Faults
time_past_32_bits line text = when (not (holds kind.Time (pos (milliseconds text)))) E13 line

-- NULL takes the type of references or interface values that is asked for, else that of references to the first class
abbrev pub null_taken : StType → StType
null_taken (type.Reference c) = type.Reference c
null_taken (type.Interface i) = type.Interface i
null_taken _ = type.Reference 0

unfoldable pub null_type : Asked → StType
null_type (Wanted t) = null_taken t
null_type _ = type.Reference 0
