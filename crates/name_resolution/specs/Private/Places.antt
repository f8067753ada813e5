-- Tables of names.
use Rattle.std.specs.Prelude.{◌≡◌, ℕ, ◌+◌, nat_eq, Bool, true, false, ◌&&◌, if◌then◌else◌, List, [], ◌∷◌, Option, Some, None, option_map, slice_get}
use Rattle.std.specs.Cmp.Lexicographic.{pointwise}
use Rattle.std.specs.HashMap.{HashMap, get}
use Rattle.std.specs.declared.hash.FoldHasher.{FoldHasher}
use Rattle.std.specs.declared.hash.BuildHasherDefault.{BuildHasherDefault}
use Rattle.plc_text.specs.Words.{same}
use Rattle.st_rules.specs.declared.names.DeclaredVariable.{DeclaredVariable}
use Rattle.st_rules.specs.declared.names.DeclaredGlobal.{DeclaredGlobal}
use Rattle.st_rules.specs.declared.names.DeclaredGlobal.TheVariants as global
use Rattle.st_rules.specs.Scope.{is_inherited, is_of_instance}
use Rattle.name_resolution.specs.declared.places.Which.{Which}
use Rattle.name_resolution.specs.declared.places.Which.TheVariants.{All, Inherited, OfInstance}

-- a table of places by name
abbrev pub Table : Type 0
Table = HashMap (List ℕ) ℕ (BuildHasherDefault FoldHasher)

abbrev pub found_in : Table → List ℕ → Option ℕ
found_in table name = get (pointwise nat_eq) table name

module _ {X : Type 0} (name_of : X → List ℕ) (test : X → Bool) where
  -- the place of the first of the name that passes, where the list begins at place i
  abbrev pub first_from : ℕ → List X → List ℕ → Option ℕ
  first_from i [] name = None
  first_from i (x ∷ xs) name = if test x && same (name_of x) name then Some i else first_from (i + 1) xs name

  -- the table finds what the search finds
  pub record IsTableOf (table : Table) (xs : List X) : Type 0 where
    pub finds : (name : List ℕ) → found_in table name ≡ first_from 0 xs name

-- each table is one of the items that stand in its place
abbrev pub AreTables : {X Y : Type 0} → (X → List ℕ) → (X → Bool) → (Y → List X) → List Table → List Y → Type 0
AreTables name_of test items_of [] [] = Unit {0}
AreTables name_of test items_of (t ∷ ts) (y ∷ ys) = IsTableOf name_of test t (items_of y) × AreTables name_of test items_of ts ys
AreTables name_of test items_of _ _ = ⊥

-- the items that are there, of an item that may be
abbrev pub items_in : {X Y : Type 0} → (Y → List X) → Option Y → List X
items_in items_of None = []
items_in items_of (Some y) = items_of y

-- the items at a place; none where there is no such place
abbrev pub items_at : {X Y : Type 0} → (Y → List X) → List Y → ℕ → List X
items_at items_of ys n = items_in items_of (slice_get ys n)

abbrev pub passes : Which → DeclaredVariable → Bool
passes All v = true
passes Inherited v = is_inherited v
passes OfInstance v = is_of_instance v

abbrev pub is_variable : DeclaredGlobal → Bool
is_variable (global.Variable v) = true
is_variable (global.Function k r) = false

-- an item with its number
abbrev pub numbered_at : {X : Type 0} → List X → ℕ → Option (ℕ × X)
numbered_at xs k = option_map (λ x. (k, x)) (slice_get xs k)
