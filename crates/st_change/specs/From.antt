-- Which old variable a new one comes from, and which place a path had or has.
use Rattle.std.specs.Prelude.{ℕ, zero, suc, ℤ, Bool, true, false, not, ◌&&◌, if◌then◌else◌, List, [], ◌∷◌, ◌++◌, reverse, Option, Some, None, is_some, option_map, slice_get}
use Rattle.plc_text.specs.Words.{same}
use Rattle.st_tree.specs.declared.path.Step.TheVariants as step
use Rattle.st_values.specs.Program.{Variable, Sort, a_program, Class, TypeEntry, Region, Program, class_at, class_number, chain_of, own_of}
use Rattle.st_rules.specs.Named.{first_place}
use Rattle.st_values.specs.Value.{Path, Step, place_of_index, ◌>>=◌}
use Rattle.st_values.specs.Shape.{Shape, Array, Structure, Instance, Fields, no_fields, field_then, fields_of, element_shape, region_shape}

-- ---- variables of one declaration

abbrev pub declares : List Variable → List ℕ → Bool
declares [] name = false
declares (v ∷ vs) name = if same v.name name then true else declares vs name

abbrev pub is_name : Option (List ℕ) → List ℕ → Bool
is_name None name = false
is_name (Some other) name = same other name

-- the first variable that is marked with this old name
abbrev pub marked : List Variable → List ℕ → Option (List ℕ)
marked [] old_name = None
marked (v ∷ vs) old_name = if is_name v.marks.renamed_from old_name then Some v.name else marked vs old_name

-- the own name, where the old declaration has it and no mark that counts names it
abbrev pub own_name : List Variable → List Variable → Variable → Option (List ℕ)
own_name new old v = if declares old v.name && not (is_some (marked new v.name)) then Some v.name else None

-- A mark counts where the old declaration has the name and no variable before has a mark with it.
abbrev pub from_mark : List Variable → List Variable → Variable → Option (List ℕ) → Option (List ℕ)
from_mark new old v None = own_name new old v
from_mark new old v (Some o) = if declares old o && is_name (marked new o) v.name then Some o else own_name new old v

-- the old name of a variable that a declaration has itself
abbrev pub from : List Variable → List Variable → Variable → Option (List ℕ)
from new old v = from_mark new old v v.marks.renamed_from

-- ---- variables of a class, a structure, and of the program

-- each variable with its old name, where it has one
abbrev pub Pairs : Type 0
Pairs = List (List ℕ × Option (List ℕ))

abbrev pub pairs_by : (Variable → Option (List ℕ)) → List Variable → Pairs
pairs_by f [] = []
pairs_by f (v ∷ vs) = (v.name, f v) ∷ pairs_by f vs

abbrev pub is_program : Sort → Bool
is_program a_program = true
is_program _ = false

abbrev pub same_flag : Bool → Bool → Bool
same_flag true b = b
same_flag false b = not b

-- classes and function blocks are one sort, programs another
abbrev pub of_sort : Sort → Option Class → Option Class
of_sort s None = None
of_sort s (Some c) = if same_flag (is_program s) (is_program c.sort) then Some c else None

abbrev pub class_named : Program → List ℕ → Option Class
class_named p name = class_number p name >>= λ c. class_at p c

-- the old declaration of the name and sort of a class
abbrev pub old_class : Program → Class → Option Class
old_class old c = of_sort c.sort (class_named old c.name)

abbrev pub own_pairs : Program → Option Class → Pairs
own_pairs old None = []
own_pairs old (Some c) = pairs_by (from c.own (own_of (old_class old c))) c.own

abbrev pub chain_pairs : Program → Program → List ℕ → Pairs
chain_pairs old new [] = []
chain_pairs old new (c ∷ cs) = own_pairs old (class_at new c) ++ chain_pairs old new cs

-- those of the bases first
unfoldable pub class_pairs : Program → Program → ℕ → Pairs
class_pairs old new c = chain_pairs old new (reverse (chain_of (class_at new c)))

abbrev pub structure_named : List TypeEntry → List ℕ → List Variable
structure_named [] name = []
structure_named (t ∷ ts) name = if same t.name name then fields (fields_of t.body) else structure_named ts name
  where
    fields : Option (List Variable) → List Variable
    fields None = []
    fields (Some vs) = vs

-- fields of structures cannot be renamed
abbrev pub same_name : List Variable → Variable → Option (List ℕ)
same_name old v = if declares old v.name then Some v.name else None

unfoldable pub structure_pairs : Program → Program → List ℕ → Pairs
structure_pairs old new name = pairs_by (same_name (structure_named old.types name)) (structure_named new.types name)

-- globals count as one declaration
abbrev pub globals_in : List Region → List Variable
globals_in [] = []
globals_in (x ∷ xs) = if x.program then globals_in xs else x.variable ∷ globals_in xs

abbrev pub instances_in : List Region → List Variable
instances_in [] = []
instances_in (x ∷ xs) = if x.program then x.variable ∷ instances_in xs else instances_in xs

-- a program instance comes from the instance of its name
abbrev pub region_from : List Region → List Region → Region → Option (List ℕ)
region_from new old x = if x.program then same_name (instances_in old) x.variable else from (globals_in new) (globals_in old) x.variable

abbrev pub region_pairs_by : (Region → Option (List ℕ)) → List Region → Pairs
region_pairs_by f [] = []
region_pairs_by f (x ∷ xs) = (x.variable.name, f x) ∷ region_pairs_by f xs

unfoldable pub region_pairs : Program → Program → Pairs
region_pairs old new = region_pairs_by (region_from new.regions old.regions) new.regions

-- ---- of several that come from one the last has it

abbrev pub comes_from : Pairs → List ℕ → Bool
comes_from [] o = false
comes_from (a ∷ rest) o = if is_name a.1 o then true else comes_from rest o

abbrev pub unless_later : Pairs → Option (List ℕ) → Option (List ℕ)
unless_later rest None = None
unless_later rest (Some o) = if comes_from rest o then None else Some o

-- the old name of a new one
abbrev pub old_name : Pairs → List ℕ → Option (List ℕ)
old_name [] n = None
old_name (a ∷ rest) n = if same a.0 n then unless_later rest a.1 else old_name rest n

abbrev pub or_this : Option (List ℕ) → List ℕ × Option (List ℕ) → List ℕ → Option (List ℕ)
or_this (Some n) a o = Some n
or_this None a o = if is_name a.1 o then Some a.0 else None

-- the new name of an old one
abbrev pub new_name : Pairs → List ℕ → Option (List ℕ)
new_name [] o = None
new_name (a ∷ rest) o = or_this (new_name rest o) a o

-- ---- paths by names

pub data Way : Type 0 where
  by_name : List ℕ → Way
  by_index : ℤ → Way

abbrev pub field_name : Fields → ℕ → Option (List ℕ)
field_name no_fields k = None
field_name (field_then v sh fs) zero = Some v.name
field_name (field_then v sh fs) (suc k) = field_name fs k

abbrev pub field_number : Fields → List ℕ → Option ℕ
field_number no_fields name = None
field_number (field_then v sh fs) name = if same v.name name then Some 0 else option_map suc (field_number fs name)

abbrev pub field_named : Fields → List ℕ → Option Shape
field_named no_fields name = None
field_named (field_then v sh fs) name = if same v.name name then Some sh else field_named fs name

-- the part of a shape to which a way leads
abbrev pub part_by : Shape → Way → Option Shape
part_by (Array low n sh) (by_index i) = element_shape n sh (place_of_index low i)
part_by (Structure name fs) (by_name f) = field_named fs f
part_by (Instance c name fs) (by_name f) = field_named fs f
part_by _ _ = None

-- a step as a way, and a way as a step
abbrev pub way_of : Shape → Step → Option Way
way_of (Array low n sh) (step.Element i) = Some (by_index i)
way_of (Structure name fs) (step.Field k) = option_map by_name (field_name fs k)
way_of (Instance c name fs) (step.Field k) = option_map by_name (field_name fs k)
way_of _ _ = None

abbrev pub step_of : Shape → Way → Option Step
step_of (Array low n sh) (by_index i) = Some (step.Element i)
step_of (Structure name fs) (by_name f) = option_map step.Field (field_number fs f)
step_of (Instance c name fs) (by_name f) = option_map step.Field (field_number fs f)
step_of _ _ = None

abbrev pub ways_of : Shape → List Step → Option (List Way)
ways_of sh [] = Some []
ways_of sh (s ∷ ss) = do
  w ← way_of sh s
  part ← part_by sh w
  ws ← ways_of part ss
  Some (w ∷ ws)

abbrev pub steps_of : Shape → List Way → Option (List Step)
steps_of sh [] = Some []
steps_of sh (w ∷ ws) = do
  s ← step_of sh w
  part ← part_by sh w
  ss ← steps_of part ws
  Some (s ∷ ss)

-- ---- paths before and after

abbrev pub region_name : Program → ℕ → Option (List ℕ)
region_name p r = option_map (λ x. x.variable.name) (slice_get p.regions r)

abbrev pub names_of_regions : List Region → List (List ℕ)
names_of_regions [] = []
names_of_regions (x ∷ xs) = x.variable.name ∷ names_of_regions xs

abbrev pub region_number : Program → List ℕ → Option ℕ
region_number p name = first_place name (names_of_regions p.regions)

module _ (old new : Program) where
  -- both go by the types of the new program
  abbrev pub pairs_of : Shape → Pairs
  pairs_of (Structure name fs) = structure_pairs old new name
  pairs_of (Instance c name fs) = class_pairs old new c
  pairs_of _ = []

  abbrev pub old_way : Shape → Way → Option Way
  old_way sh (by_index i) = Some (by_index i)
  old_way sh (by_name f) = option_map by_name (old_name (pairs_of sh) f)

  abbrev pub new_way : Shape → Way → Option Way
  new_way sh (by_index i) = Some (by_index i)
  new_way sh (by_name o) = option_map by_name (new_name (pairs_of sh) o)

  abbrev pub old_ways : Shape → List Way → Option (List Way)
  old_ways sh [] = Some []
  old_ways sh (w ∷ ws) = do
    o ← old_way sh w
    part ← part_by sh w
    os ← old_ways part ws
    Some (o ∷ os)

  abbrev pub new_ways : Shape → List Way → Option (List Way)
  new_ways sh [] = Some []
  new_ways sh (o ∷ os) = do
    w ← new_way sh o
    part ← part_by sh w
    ws ← new_ways part os
    Some (w ∷ ws)

  -- the old region of a new one, and the new region of an old one
  abbrev pub old_region : ℕ → Option ℕ
  old_region r = do
    name ← region_name new r
    o ← old_name (region_pairs old new) name
    region_number old o

  abbrev pub new_region : ℕ → Option ℕ
  new_region r = do
    name ← region_name old r
    n ← new_name (region_pairs old new) name
    region_number new n

  -- Region and fields of a new path replaced by what they come from; none where one comes from none.
  abbrev pub old_path : Path → Option Path
  old_path q = do
    r ← old_region q.region
    new_shape ← region_shape new q.region
    old_shape ← region_shape old r
    ws ← ways_of new_shape q.steps
    os ← old_ways new_shape ws
    ss ← steps_of old_shape os
    Some (record { region = r; steps = ss })

  -- and back
  abbrev pub new_path : Path → Option Path
  new_path q = do
    r ← new_region q.region
    old_shape ← region_shape old q.region
    new_shape ← region_shape new r
    os ← ways_of old_shape q.steps
    ws ← new_ways new_shape os
    ss ← steps_of new_shape ws
    Some (record { region = r; steps = ss })
