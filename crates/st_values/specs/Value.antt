-- Values as trees, with the names that the text gives, and what is read and replaced in them.
use Rattle.std.specs.Prelude.{ℕ, zero, suc, ℤ, pos, negsuc, ◌-ℤ◌, List, [], ◌∷◌, Option, Some, None}
pub use Rattle.st_tree.specs.declared.path.Path.{Path}
pub use Rattle.st_tree.specs.declared.path.Step.{Step}
use Rattle.st_tree.specs.declared.path.Step.TheVariants as step

mutual
  pub data Value : Type 0 where
    -- of an elementary type, or the place of an enumerator in its list
    number : ℤ → Value
    -- of a reference or an interface variable: the path of an instance, or NULL
    reference : Option Path → Value
    -- the least index and the elements
    array : ℤ → Values → Value
    -- the structure's name and its fields
    structure : List ℕ → Members → Value
    -- the class's name and its variables, those of its bases first
    instance : List ℕ → Members → Value

  pub data Values : Type 0 where
    no_values : Values
    value_then : Value → Values → Values

  -- values with their names
  pub data Members : Type 0 where
    no_members : Members
    member_then : List ℕ → Value → Members → Members

-- the regions with their names, in the order of the text
abbrev pub Store : Type 0
Store = Members

infixl 10 ◌>>=◌
abbrev pub ◌>>=◌ : {A B : Type 0} → Option A → (A → Option B) → Option B
◌>>=◌ None f = None
◌>>=◌ (Some a) f = f a

-- ---- parts

abbrev pub element : Values → ℕ → Option Value
element no_values i = None
element (value_then v vs) zero = Some v
element (value_then v vs) (suc i) = element vs i

abbrev pub with_element : Values → ℕ → Value → Values
with_element no_values i new = no_values
with_element (value_then v vs) zero new = value_then new vs
with_element (value_then v vs) (suc i) new = value_then v (with_element vs i new)

abbrev pub member : Members → ℕ → Option Value
member no_members i = None
member (member_then n v ms) zero = Some v
member (member_then n v ms) (suc i) = member ms i

abbrev pub with_member : Members → ℕ → Value → Members
with_member no_members i new = no_members
with_member (member_then n v ms) zero new = member_then n new ms
with_member (member_then n v ms) (suc i) new = member_then n v (with_member ms i new)

abbrev pub names_of : Members → List (List ℕ)
names_of no_members = []
names_of (member_then n v ms) = n ∷ names_of ms

-- a number that is not below zero
abbrev pub natural : ℤ → Option ℕ
natural (pos n) = Some n
natural (negsuc n) = None

-- which element has this index, where the least one is `low`
abbrev pub place_of_index : ℤ → ℤ → Option ℕ
place_of_index low i = natural (i -ℤ low)

-- the part of a value to which a step leads
abbrev pub part : Value → Step → Option Value
part (array low vs) (step.Element i) = do
  k ← place_of_index low i
  element vs k
part (structure name ms) (step.Field k) = member ms k
part (instance name ms) (step.Field k) = member ms k
part _ _ = None

abbrev pub with_element_at : Values → Option ℕ → Value → Values
with_element_at vs None new = vs
with_element_at vs (Some k) new = with_element vs k new

-- the same value with another part there
abbrev pub with_part : Value → Step → Value → Value
with_part (array low vs) (step.Element i) new = array low (with_element_at vs (place_of_index low i) new)
with_part (structure name ms) (step.Field k) new = structure name (with_member ms k new)
with_part (instance name ms) (step.Field k) new = instance name (with_member ms k new)
with_part v _ new = v

-- ---- paths

-- what stands in a value behind these steps
abbrev pub value_at : Value → List Step → Option Value
value_at v [] = Some v
value_at v (s ∷ ss) = do
  w ← part v s
  value_at w ss

-- the value with another one there
abbrev pub value_with : Value → List Step → Value → Option Value
value_with v [] new = Some new
value_with v (s ∷ ss) new = do
  w ← part v s
  w' ← value_with w ss new
  Some (with_part v s w')

-- what stands in a store at a path
abbrev pub at : Store → Path → Option Value
at s q = do
  v ← member s q.region
  value_at v q.steps

-- the store with another value there
abbrev pub put : Store → Path → Value → Option Store
put s q new = do
  v ← member s q.region
  w ← value_with v q.steps new
  Some (with_member s q.region w)
