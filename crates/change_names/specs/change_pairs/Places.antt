-- Tables of names with their places in a list.
use Rattle.std.specs.Prelude.{◌≡◌, ℕ, suc, nat_eq, Bool, if◌then◌else◌, List, [], ◌∷◌, Option, Some, None, option_map}
use Rattle.std.specs.Cmp.Lexicographic.{pointwise}
use Rattle.std.specs.HashMap.{HashMap, get}
use Rattle.std.specs.declared.hash.FoldHasher.{FoldHasher}
use Rattle.std.specs.declared.hash.BuildHasherDefault.{BuildHasherDefault}

-- a table of places by name
abbrev pub Table : Type 0
Table = HashMap (List ℕ) ℕ (BuildHasherDefault FoldHasher)

abbrev pub found_in : Table → List ℕ → Option ℕ
found_in table name = get (pointwise nat_eq) table name

-- it finds what the search finds
pub record Finds (table : Table) (search : List ℕ → Option ℕ) : Type 0 where
  pub by : (name : List ℕ) → found_in table name ≡ search name

abbrev pub or_here : Option ℕ → Bool → Option ℕ
or_here (Some k) b = Some (suc k)
or_here None b = if b then Some 0 else None

module _ {X : Type 0} (test : X → Bool) where
  -- the place of the first item that passes
  abbrev pub first_where : List X → Option ℕ
  first_where [] = None
  first_where (x ∷ xs) = if test x then Some 0 else option_map suc (first_where xs)

  -- and of the last
  abbrev pub last_where : List X → Option ℕ
  last_where [] = None
  last_where (x ∷ xs) = or_here (last_where xs) (test x)
