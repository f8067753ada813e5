-- Places: a field, an element or a target is one of what stands before it, and has the type of its note.
use Rattle.std.specs.Prelude.{◌≡◌, ℕ, List, Some, pos, slice_get}
use Rattle.st_types.specs.declared.st_type.StType.{StType}
use Rattle.st_types.specs.declared.st_type.StType.TheOpen.{StType-F}
use Rattle.st_types.specs.declared.st_type.StType.TheVariants as type
use Rattle.st_tree.specs.declared.program.Note.{Note}
use Rattle.st_tree.specs.declared.program.Target.{Target}
use Rattle.st_tree.specs.declared.program.Target.TheVariants as target
use Rattle.st_tree.specs.Expression.{Expression, Place}
use Rattle.st_values.specs.Program.{Variable, TypeEntry, Program, class_variables}
use Rattle.st_values.specs.Shape.{fields_of}
use Rattle.st_meaning.specs.st_frame.Promise.Types.{NumberIs}
use Rattle.st_meaning.specs.st_frame.Promise.Names.{VariableIs}

abbrev pub FieldIs : Program → StType → ℕ → StType → Type 0
FieldIs p (type.Structure n) k u = (x : TypeEntry) × (vs : List Variable) × (slice_get p.types n ≡ Some x) × (fields_of x.body ≡ Some vs) × VariableIs (slice_get vs k) u
FieldIs p _ k u = ⊥

abbrev pub MemberIs : Program → StType → ℕ → StType → Type 0
MemberIs p (type.Instance c) k u = VariableIs (slice_get (class_variables p c) k) u
MemberIs p _ k u = ⊥

abbrev pub PartIs : Program → StType → Target → StType → Type 0
PartIs p t (target.Field k) u = FieldIs p t k u
PartIs p t (target.Variable k) u = MemberIs p t k u
PartIs p t _ u = ⊥

abbrev pub HasMethods : StType → Type 0
HasMethods (type.Instance c) = Unit {0}
HasMethods (type.Interface i) = Unit {0}
HasMethods _ = ⊥

-- the last name of what is called: a method's, or a part's
abbrev pub LastIs : Program → StType → Target → StType → Type 0
LastIs p t (target.Method m) u = HasMethods t
LastIs p t a u = PartIs p t a u

-- `^` on a reference, or on an instance
abbrev pub TargetIs : StType → StType → Type 0
TargetIs (type.Reference c) u = u ≡ type.Instance c
TargetIs (type.Instance c) u = u ≡ type.Instance c
TargetIs _ u = ⊥

-- the type of the elements of an array
abbrev pub ElementIs : StType-F StType → StType → Type 0
ElementIs (StType-F.Array low high of) u = of ≡ u
ElementIs _ u = ⊥

-- a constant or an enumerator, or a place
abbrev pub NamedIs : Program → Target → StType → Type 0 → Type 0
NamedIs p (target.Constant z) t place = NumberIs p t z
NamedIs p (target.Enumerator k) t place = NumberIs p t (pos k)
NamedIs p _ t place = place

abbrev pub IsNothing : Target → Type 0
IsNothing target.Nothing = Unit {0}
IsNothing _ = ⊥

-- the expression is a place
abbrev pub IsPlace : Expression Note → Type 0
IsPlace (Place a r ss) = IsNothing a.target
IsPlace _ = ⊥
