-- Types of a program unfolded by names into plain trees.
use Rattle.std.specs.Prelude.{ℕ, zero, suc, ℤ, pos, negsuc, ◌-ℤ◌, Bool, true, false, ◌&&◌, ◌||◌, nat_eq, nat_lt, if◌then◌else◌, List, [], ◌∷◌, Option, Some, None, option_map, slice_get}
use Rattle.std.specs.Ordering.{int_eq}
use Rattle.plc_text.specs.Words.{same}
use Rattle.st_types.specs.declared.elem.Elem.{Elem}
use Rattle.st_types.specs.Elem.{name as elem_name}
use Rattle.st_types.specs.declared.st_type.StType.{StType, out-StType}
use Rattle.st_types.specs.declared.st_type.StType.TheOpen.{StType-F}
use Rattle.st_tree.specs.declared.path.Path.{Path}
use Rattle.st_tree.specs.declared.path.Step.{Step}
use Rattle.st_tree.specs.declared.path.Step.TheVariants as step
use Rattle.st_values.specs.Program.{Variable, TypeBody, an_enumeration, a_structure, Program, class_at, class_variables}
use Rattle.st_values.specs.Value.{◌>>=◌, place_of_index}

mutual
  pub data Shape : Type 0 where
    Elementary : Elem → Shape
    -- its name and the names of its values
    Enumeration : List ℕ → List (List ℕ) → Shape
    -- the number and the name of the class or the interface, which is not unfolded
    Reference : ℕ → List ℕ → Shape
    Interface : ℕ → List ℕ → Shape
    -- the least index, how many elements, and their shape
    Array : ℤ → ℕ → Shape → Shape
    Structure : List ℕ → Fields → Shape
    -- the class's number and name, and its variables, those of its bases first
    Instance : ℕ → List ℕ → Fields → Shape

  -- variables with the shapes of their types
  pub data Fields : Type 0 where
    no_fields : Fields
    field_then : Variable → Shape → Fields → Fields

-- how many indices there are from one to another
abbrev pub count_to : ℤ → ℕ
count_to (pos n) = suc n
count_to (negsuc n) = 0

abbrev pub extent : ℤ → ℤ → ℕ
extent low high = count_to (high -ℤ low)

abbrev pub fields_by : (StType → Option Shape) → List Variable → Option Fields
fields_by f [] = Some no_fields
fields_by f (v ∷ vs) = do
  sh ← f v.kind
  rest ← fields_by f vs
  Some (field_then v sh rest)

abbrev pub values_of : TypeBody → Option (List (List ℕ))
values_of (an_enumeration values) = Some values
values_of _ = None

abbrev pub fields_of : TypeBody → Option (List Variable)
fields_of (a_structure fields) = Some fields
fields_of _ = None

module _ (p : Program) where
  -- of what holds no parts
  abbrev pub simple_shape : StType-F StType → Option Shape
  simple_shape (StType-F.Elementary e) = Some (Elementary e)
  simple_shape (StType-F.Enumeration n) = do
    t ← slice_get p.types n
    values ← values_of t.body
    Some (Enumeration t.name values)
  simple_shape (StType-F.Reference c) = option_map (λ k. Reference c k.name) (class_at p c)
  simple_shape (StType-F.Interface i) = option_map (λ k. Interface i k.name) (slice_get p.interfaces i)
  simple_shape _ = None

  -- the shape where those of the parts are known
  abbrev pub shape_by : (StType → Option Shape) → StType-F StType → Option Shape
  shape_by f (StType-F.Array low high of) = option_map (Array low (extent low high)) (f of)
  shape_by f (StType-F.Structure n) = do
    t ← slice_get p.types n
    vs ← fields_of t.body
    fields ← fields_by f vs
    Some (Structure t.name fields)
  shape_by f (StType-F.Instance c) = do
    k ← class_at p c
    fields ← fields_by f (class_variables p c)
    Some (Instance c k.name fields)
  shape_by f t = simple_shape t

  -- the shape of a type with at most so many arrays, structures and instances within one another
  abbrev pub shape_within : ℕ → StType → Option Shape
  shape_within zero t = simple_shape (out-StType t)
  shape_within (suc n) t = shape_by (shape_within n) (out-StType t)

  -- 64 steps of containment are allowed
  abbrev pub shape_of : StType → Option Shape
  shape_of t = shape_within 65 t

  abbrev pub region_shape : ℕ → Option Shape
  region_shape r = do
    x ← slice_get p.regions r
    shape_of x.variable.kind

-- ---- parts

abbrev pub field : Fields → ℕ → Option Shape
field no_fields i = None
field (field_then v sh fs) zero = Some sh
field (field_then v sh fs) (suc i) = field fs i

-- the element of this number, where there are so many
abbrev pub element_shape : ℕ → Shape → Option ℕ → Option Shape
element_shape n sh None = None
element_shape n sh (Some k) = if nat_lt k n then Some sh else None

abbrev pub shape_part : Shape → Step → Option Shape
shape_part (Array low n sh) (step.Element i) = element_shape n sh (place_of_index low i)
shape_part (Structure name fs) (step.Field k) = field fs k
shape_part (Instance c name fs) (step.Field k) = field fs k
shape_part _ _ = None

abbrev pub shape_at : Shape → List Step → Option Shape
shape_at sh [] = Some sh
shape_at sh (s ∷ ss) = do
  part ← shape_part sh s
  shape_at part ss

-- the shape of what a path leads to
abbrev pub path_shape : Program → Path → Option Shape
path_shape p q = do
  sh ← region_shape p q.region
  shape_at sh q.steps

-- ---- tests

abbrev mutual
  pub has_instance : Shape → Bool
  has_instance (Elementary e) = false
  has_instance (Enumeration name values) = false
  has_instance (Reference c name) = false
  has_instance (Interface i name) = false
  has_instance (Array low n sh) = has_instance sh
  has_instance (Structure name fs) = a_field_has_instance fs
  has_instance (Instance c name fs) = true

  pub a_field_has_instance : Fields → Bool
  a_field_has_instance no_fields = false
  a_field_has_instance (field_then v sh fs) = has_instance sh || a_field_has_instance fs

abbrev pub same_names : List (List ℕ) → List (List ℕ) → Bool
same_names [] [] = true
same_names (n ∷ ns) (m ∷ ms) = same n m && same_names ns ms
same_names _ _ = false

abbrev pub same_elem : Elem → Elem → Bool
same_elem a b = same (elem_name a) (elem_name b)

-- whether two shapes are equal, by names; initial values, marks and numbers are no part of a shape
abbrev mutual
  pub same_shape : Shape → Shape → Bool
  same_shape (Elementary a) (Elementary b) = same_elem a b
  same_shape (Enumeration n vs) (Enumeration m ws) = same n m && same_names vs ws
  same_shape (Reference c n) (Reference d m) = same n m
  same_shape (Interface i n) (Interface j m) = same n m
  same_shape (Array low n sh) (Array low' n' sh') = int_eq low low' && (nat_eq n n' && same_shape sh sh')
  same_shape (Structure n fs) (Structure m gs) = same n m && same_fields fs gs
  same_shape (Instance c n fs) (Instance d m gs) = same n m && same_fields fs gs
  same_shape _ _ = false

  pub same_fields : Fields → Fields → Bool
  same_fields no_fields no_fields = true
  same_fields (field_then v sh fs) (field_then w sh' gs) = same v.name w.name && (same_shape sh sh' && same_fields fs gs)
  same_fields _ _ = false
