-- Types of expressions: widening, what operators take and give, implicit conversion (IEC 61131-3:2013, 6.3.2, 6.6.1.7 and table 71).
use Rattle.std.specs.Prelude.{◌≡◌, ℕ, ℤ, nat_eq, Bool, true, false, ◌&&◌, ◌||◌, if◌then◌else◌, List, [], ◌∷◌, Option, Some, None, option_map}
use Rattle.std.specs.Option.{is_some}
use Rattle.std.proofs.Common.{sym, ◌∙◌, ap}
use Rattle.std.specs.List.{list_any}
use Rattle.st_types.specs.declared.elem.Elem.{Elem}
use Rattle.st_types.specs.declared.elem.Elem.TheVariants as kind
use Rattle.st_types.specs.Elem.{is_signed, is_integer, is_bit_string}
use Rattle.st_types.specs.declared.st_type.StType.{StType, out-StType}
use Rattle.st_types.specs.declared.st_type.StType.TheVariants as type
use Rattle.st_types.specs.declared.st_type.StType.TheOpen.{StType-F}
use Rattle.st_types.specs.declared.st_type.StType.TheFolds.{fold-StType, fold-roll-StType}
use Rattle.st_tree.specs.declared.expression.Operator.{Operator}
use Rattle.st_tree.specs.declared.expression.Operator.TheVariants as operator
use Rattle.st_tree.specs.declared.declaration.ClassDecl.{ClassDecl}
use Rattle.st_tree.specs.declared.declaration.InterfaceDecl.{InterfaceDecl}
use Rattle.st_rules.specs.Types.{same_kind, same_type}
use Rattle.st_rules.specs.Interfaces.{extends, conforms}

-- ---- widening, as it is computed: `widening_laws` proves it to be the relation of st_types

-- the kinds to which a kind widens, in any number of steps
abbrev pub wider : Elem → List Elem
wider kind.Sint = kind.Int ∷ kind.Dint ∷ kind.Lint ∷ []
wider kind.Int = kind.Dint ∷ kind.Lint ∷ []
wider kind.Dint = kind.Lint ∷ []
wider kind.Usint = kind.Uint ∷ kind.Udint ∷ kind.Ulint ∷ kind.Int ∷ kind.Dint ∷ kind.Lint ∷ []
wider kind.Uint = kind.Udint ∷ kind.Ulint ∷ kind.Dint ∷ kind.Lint ∷ []
wider kind.Udint = kind.Ulint ∷ kind.Lint ∷ []
wider kind.Byte = kind.Word ∷ kind.Dword ∷ kind.Lword ∷ []
wider kind.Word = kind.Dword ∷ kind.Lword ∷ []
wider kind.Dword = kind.Lword ∷ []
wider _ = []

-- a kind reaches itself, and those to which it widens
abbrev pub reaches : Elem → Elem → Bool
reaches a b = same_kind a b || list_any (same_kind b) (wider a)

-- the order in which two operands take a kind; BOOL and TIME are reached by themselves alone
abbrev pub kinds_in_order : List Elem
kinds_in_order = kind.Sint ∷ kind.Usint ∷ kind.Int ∷ kind.Uint ∷ kind.Dint ∷ kind.Udint ∷ kind.Lint ∷ kind.Ulint ∷ kind.Byte ∷ kind.Word ∷ kind.Dword ∷ kind.Lword ∷ kind.Bool ∷ kind.Time ∷ []

abbrev pub first_reached : Elem → Elem → List Elem → Option Elem
first_reached a b [] = None
first_reached a b (k ∷ ks) = if reaches a k && reaches b k then Some k else first_reached a b ks

-- the kind that two operands take: the first that both reach
unfoldable pub common_kind : Elem → Elem → Option Elem
common_kind a b = first_reached a b kinds_in_order

-- ---- types

abbrev pub elementary : StType → Option Elem
elementary (type.Elementary e) = Some e
elementary _ = None

abbrev pub boolean : StType
boolean = type.Elementary kind.Bool

abbrev pub dint : StType
dint = type.Elementary kind.Dint

abbrev pub time : StType
time = type.Elementary kind.Time

abbrev pub is_bool : Elem → Bool
is_bool kind.Bool = true
is_bool _ = false

abbrev pub is_time : Elem → Bool
is_time kind.Time = true
is_time _ = false

-- whether the type is elementary, of a kind that passes
abbrev pub is_elementary : (Elem → Bool) → StType → Bool
is_elementary test (type.Elementary e) = test e
is_elementary test _ = false

-- integers and bit strings
abbrev pub is_number : Elem → Bool
is_number e = is_integer e || is_bit_string e

abbrev pub is_reference : StType → Bool
is_reference (type.Reference c) = true
is_reference (type.Interface i) = true
is_reference _ = false

abbrev pub is_instance : StType → Bool
is_instance (type.Instance c) = true
is_instance _ = false

abbrev pub is_enumeration : StType → Bool
is_enumeration (type.Enumeration n) = true
is_enumeration _ = false

abbrev pub same_enumeration : StType → StType → Bool
same_enumeration (type.Enumeration n) (type.Enumeration m) = nat_eq n m
same_enumeration _ _ = false

abbrev pub holds_at_level : StType-F Bool → Bool
holds_at_level (StType-F.Instance c) = true
holds_at_level (StType-F.Array low high holds) = holds
holds_at_level _ = false

-- an instance, or an array that holds instances
unfoldable pub holds_instances : StType → Bool
holds_instances t = fold-StType Bool holds_at_level t

-- what each variant is
pub holds_instances-Elementary : (e : Elem) → holds_instances (type.Elementary e) ≡ false
unfolding holds_instances
holds_instances-Elementary e = ap holds_instances (sym (type.rolls-Elementary e)) ∙ fold-roll-StType Bool holds_at_level (StType-F.Elementary e)

pub holds_instances-Enumeration : (n : ℕ) → holds_instances (type.Enumeration n) ≡ false
unfolding holds_instances
holds_instances-Enumeration n = ap holds_instances (sym (type.rolls-Enumeration n)) ∙ fold-roll-StType Bool holds_at_level (StType-F.Enumeration n)

pub holds_instances-Structure : (n : ℕ) → holds_instances (type.Structure n) ≡ false
unfolding holds_instances
holds_instances-Structure n = ap holds_instances (sym (type.rolls-Structure n)) ∙ fold-roll-StType Bool holds_at_level (StType-F.Structure n)

pub holds_instances-Instance : (n : ℕ) → holds_instances (type.Instance n) ≡ true
unfolding holds_instances
holds_instances-Instance n = ap holds_instances (sym (type.rolls-Instance n)) ∙ fold-roll-StType Bool holds_at_level (StType-F.Instance n)

pub holds_instances-Reference : (n : ℕ) → holds_instances (type.Reference n) ≡ false
unfolding holds_instances
holds_instances-Reference n = ap holds_instances (sym (type.rolls-Reference n)) ∙ fold-roll-StType Bool holds_at_level (StType-F.Reference n)

pub holds_instances-Interface : (n : ℕ) → holds_instances (type.Interface n) ≡ false
unfolding holds_instances
holds_instances-Interface n = ap holds_instances (sym (type.rolls-Interface n)) ∙ fold-roll-StType Bool holds_at_level (StType-F.Interface n)

pub holds_instances-Array : (low high : ℤ) (t : StType) → holds_instances (type.Array low high t) ≡ holds_instances t
unfolding holds_instances
holds_instances-Array low high t = ap holds_instances (sym (type.rolls-Array low high t)) ∙ fold-roll-StType Bool holds_at_level (StType-F.Array low high t)

pub ruleset instance_views = (holds_instances-Elementary, holds_instances-Enumeration, holds_instances-Structure, holds_instances-Instance, holds_instances-Reference, holds_instances-Interface, holds_instances-Array)

abbrev pub element_at_level : StType-F StType → Option StType
element_at_level (StType-F.Array low high of) = Some of
element_at_level _ = None

-- the type of the elements, of an array
abbrev pub element_type : StType → Option StType
element_type t = element_at_level (out-StType t)

-- ---- operators

abbrev pub is_arithmetic : Operator → Bool
is_arithmetic operator.Plus = true
is_arithmetic operator.Minus = true
is_arithmetic operator.Times = true
is_arithmetic operator.Divide = true
is_arithmetic operator.Modulo = true
is_arithmetic _ = false

-- AND_THEN, OR_ELSE and comparisons give BOOL
abbrev pub gives_bool : Operator → Bool
gives_bool operator.AndThen = true
gives_bool operator.OrElse = true
gives_bool operator.Equal = true
gives_bool operator.Differs = true
gives_bool operator.Less = true
gives_bool operator.Greater = true
gives_bool operator.AtMost = true
gives_bool operator.AtLeast = true
gives_bool _ = false

-- the kinds that an operator takes
abbrev pub takes : Operator → Elem → Bool
takes operator.Or e = is_bool e || is_bit_string e
takes operator.OrElse e = is_bool e
takes operator.Xor e = is_bool e || is_bit_string e
takes operator.And e = is_bool e || is_bit_string e
takes operator.AndThen e = is_bool e
takes operator.Equal e = true
takes operator.Differs e = true
takes operator.Less e = is_number e || is_time e
takes operator.Greater e = is_number e || is_time e
takes operator.AtMost e = is_number e || is_time e
takes operator.AtLeast e = is_number e || is_time e
takes operator.Plus e = is_integer e || is_time e
takes operator.Minus e = is_integer e || is_time e
takes operator.Times e = is_integer e
takes operator.Divide e = is_integer e
takes operator.Modulo e = is_integer e

-- `=` and `<>` also compare equal enumerations, and references, interface values and NULL with each other
abbrev pub compares_equal : Operator → StType → StType → Bool
compares_equal operator.Equal t u = same_enumeration t u || is_reference t && is_reference u
compares_equal operator.Differs t u = same_enumeration t u || is_reference t && is_reference u
compares_equal _ t u = false

abbrev pub kind_taken : Operator → Option Elem → Option Elem
kind_taken o None = None
kind_taken o (Some e) = if takes o e then Some e else None

abbrev pub common_type : StType → StType → Option Elem
common_type (type.Elementary a) (type.Elementary b) = common_kind a b
common_type _ _ = None

-- the kind in which an operator takes two operands
abbrev pub operand_kind : Operator → StType → StType → Option Elem
operand_kind o t u = kind_taken o (common_type t u)

abbrev pub suits_operator : Operator → StType → StType → Bool
suits_operator o t u = is_some (operand_kind o t u) || compares_equal o t u

abbrev pub arithmetic_type : Operator → Option StType → Option StType → Option StType
arithmetic_type o (Some t) (Some u) = option_map type.Elementary (operand_kind o t u)
arithmetic_type o _ _ = None

-- the type of an operation, from those of its operands
unfoldable pub operation_type : Operator → Option StType → Option StType → Option StType
operation_type o t u = if gives_bool o then Some boolean else arithmetic_type o t u

-- NOT takes BOOL and bit strings
abbrev pub takes_not : Elem → Bool
takes_not e = is_bool e || is_bit_string e

-- `-` takes signed integers
abbrev pub takes_minus : Elem → Bool
takes_minus e = is_signed e

unfoldable pub unary_type : (Elem → Bool) → Option StType → Option StType
unary_type takes None = None
unary_type takes (Some t) = if is_elementary takes t then Some t else None

-- ---- implicit conversion

module _ {A : Type 0} (classes : List (ClassDecl A)) (interfaces : List (InterfaceDecl A)) where
  -- an elementary value widens; an instance, a reference or an interface value goes to what it conforms to
  abbrev pub converts : StType → StType → Bool
  converts (type.Elementary a) (type.Elementary b) = reaches a b
  converts (type.Reference c) (type.Reference d) = conforms classes interfaces c (type.Reference d)
  converts (type.Reference c) (type.Interface i) = conforms classes interfaces c (type.Interface i)
  converts (type.Instance c) (type.Interface i) = conforms classes interfaces c (type.Interface i)
  converts (type.Interface j) (type.Interface i) = extends interfaces j i
  converts _ _ = false

  -- a value of the first type may be assigned to a variable of the second
  unfoldable pub is_assignable : StType → StType → Bool
  is_assignable t u = same_type t u || converts t u

  abbrev pub narrower_instance : StType → StType → Bool
  narrower_instance (type.Instance c) (type.Instance d) = conforms classes interfaces c (type.Instance d)
  narrower_instance _ _ = false

  -- a place of the first type may be bound to an in-out of the second: without any conversion
  unfoldable pub is_bindable : StType → StType → Bool
  is_bindable t u = same_type t u || narrower_instance t u
