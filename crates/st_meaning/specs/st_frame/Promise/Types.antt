-- Types: which values serve where another type is asked, and which places.
use Rattle.std.specs.Prelude.{◌≡◌, ℕ, ℤ, Some, IsTrue, slice_get}
use Rattle.st_types.specs.declared.elem.Elem.{Elem}
use Rattle.st_types.specs.declared.elem.Elem.TheVariants as elem
use Rattle.st_types.specs.declared.st_type.StType.{StType}
use Rattle.st_types.specs.declared.st_type.StType.TheVariants as type
use Rattle.st_types.specs.Widening.{Reaches}
use Rattle.st_values.specs.Program.{Class, Interface, Program, class_at, conforms}
use Rattle.st_values.specs.Shape.{Shape, shape_of}
use Rattle.st_values.specs.Value.{number}
use Rattle.st_meaning.specs.st_frame.Good.{Fit}

-- ---- kinds of types

abbrev pub IsElementary : StType → Type 0
IsElementary t = (e : Elem) × (t ≡ type.Elementary e)

abbrev pub IsBool : StType → Type 0
IsBool t = t ≡ type.Elementary elem.Bool

-- a type whose values are numbers
abbrev pub IsNumeric : StType → Type 0
IsNumeric (type.Elementary e) = Unit {0}
IsNumeric (type.Enumeration n) = Unit {0}
IsNumeric _ = ⊥

-- a number of this type: of an elementary type in its range, of an enumeration below their count
abbrev pub NumberIs : Program → StType → ℤ → Type 0
NumberIs p t z = (sh : Shape) × (shape_of p t ≡ Some sh) × Fit p sh (number z)

-- a type of references or of interface values
abbrev pub IsHeld : StType → Type 0
IsHeld (type.Reference c) = Unit {0}
IsHeld (type.Interface i) = Unit {0}
IsHeld _ = ⊥

-- one whose class or interface is there
abbrev pub IsNamed : Program → StType → Type 0
IsNamed p (type.Reference c) = (k : Class) × (class_at p c ≡ Some k)
IsNamed p (type.Interface i) = (k : Interface) × (slice_get p.interfaces i ≡ Some k)
IsNamed p _ = ⊥

-- a type whose values are paths: also an instance, as which a reference to it is taken
abbrev pub IsPath : StType → Type 0
IsPath (type.Instance c) = Unit {0}
IsPath t = IsHeld t

abbrev pub IsNoInstance : StType → Type 0
IsNoInstance (type.Instance c) = ⊥
IsNoInstance _ = Unit {0}

-- ---- one type for another

-- what conforms to the one conforms to the other
pub record Narrower (p : Program) (t u : StType) : Type 0 where
  pub by : (c : ℕ) → IsTrue (conforms p c t) → IsTrue (conforms p c u)

-- a value of the first type serves where the second is asked
pub data Widens (p : Program) : StType → StType → Type 0 where
  same_type : {t : StType} → Widens p t t
  wider_number : {a b : Elem} → Reaches a b → Widens p (type.Elementary a) (type.Elementary b)
  wider_path : {t u : StType} → IsPath t → IsHeld u → Narrower p t u → Widens p t u

-- a place of the first type may be bound to an in-out of the second
pub data Serves (p : Program) : StType → StType → Type 0 where
  same_place : {t : StType} → Serves p t t
  wider_class : {c d : ℕ} → Narrower p (type.Instance c) (type.Instance d) → Serves p (type.Instance c) (type.Instance d)
