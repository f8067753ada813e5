-- A type has one shape, however deep it is looked for, and it is made of those of its parts.
use Rattle.std.specs.Prelude.{◌≡◌, ℕ, suc, ℤ, List, [], ◌∷◌, Some, slice_get}
use Rattle.st_types.specs.declared.elem.Elem.{Elem}
use Rattle.st_types.specs.declared.st_type.StType.{StType}
use Rattle.st_types.specs.declared.st_type.StType.TheVariants as type
use Rattle.st_values.specs.Program.{Variable, Class, Interface, TypeEntry, Program, class_at, class_variables}
use Rattle.st_values.specs.Shape as shape
use Rattle.st_values.specs.Shape.{Shape, Elementary, Enumeration, Reference, Array, Structure, Instance, Fields, no_fields, field_then, extent, values_of, fields_of, shape_within}

-- the type unfolds to this
pub record Unfolds (p : Program) (t : StType) (sh : Shape) : Type 0 where
  pub depth : ℕ
  pub by : shape_within p depth t ≡ Some sh

-- each variable's type unfolds to the shape that stands with it
abbrev pub EachUnfolds : Program → List Variable → Fields → Type 0
EachUnfolds p [] no_fields = Unit {0}
EachUnfolds p (v ∷ vs) (field_then w sh fs) = (w ≡ v) × Unfolds p v.kind sh × EachUnfolds p vs fs
EachUnfolds p _ _ = ⊥

pub record ShapeLaws : Type 0 where
  pub deeper : (p : Program) (n : ℕ) (t : StType) (sh : Shape) → shape_within p n t ≡ Some sh → shape_within p (suc n) t ≡ Some sh
  pub once : (p : Program) (t : StType) (a b : Shape) → Unfolds p t a → Unfolds p t b → a ≡ b
  pub elementary : (p : Program) (e : Elem) → Unfolds p (type.Elementary e) (Elementary e)
  pub enumeration : (p : Program) (n : ℕ) (x : TypeEntry) (values : List (List ℕ)) → slice_get p.types n ≡ Some x → values_of x.body ≡ Some values → Unfolds p (type.Enumeration n) (Enumeration x.name values)
  pub reference : (p : Program) (c : ℕ) (k : Class) → class_at p c ≡ Some k → Unfolds p (type.Reference c) (Reference c k.name)
  pub interface : (p : Program) (i : ℕ) (k : Interface) → slice_get p.interfaces i ≡ Some k → Unfolds p (type.Interface i) (shape.Interface i k.name)
  pub array : (p : Program) (low high : ℤ) (t : StType) (sh : Shape) → Unfolds p t sh → Unfolds p (type.Array low high t) (Array low (extent low high) sh)
  pub structure : (p : Program) (n : ℕ) (x : TypeEntry) (vs : List Variable) (fs : Fields) → slice_get p.types n ≡ Some x → fields_of x.body ≡ Some vs → EachUnfolds p vs fs → Unfolds p (type.Structure n) (Structure x.name fs)
  pub instance : (p : Program) (c : ℕ) (k : Class) (fs : Fields) → class_at p c ≡ Some k → EachUnfolds p (class_variables p c) fs → Unfolds p (type.Instance c) (Instance c k.name fs)
