-- A table of names, as the list of its pairs of a name and a value, in the order of adding.
use Rattle.std.specs.Prelude.{◌≡◌, ℕ, List, slice_get, Some}
use Rattle.std.specs.Map.{keys_of, values_of}
use Rattle.st_names.specs.declared.add_error.AddError.{AddError}
use Rattle.st_names.specs.declared.add_error.AddError.TheVariants.{Taken, NoMemory}

module _ {V : Type 0} where
  -- the name stands at place n
  abbrev pub IsAt : List (List ℕ × V) → ℕ → List ℕ → Type 0
  IsAt pairs n name = slice_get (keys_of pairs) n ≡ Some name

  -- the value stands at place n
  abbrev pub IsValueAt : List (List ℕ × V) → ℕ → V → Type 0
  IsValueAt pairs n value = slice_get (values_of pairs) n ≡ Some value

  -- the name stands at some place
  abbrev pub HasName : List (List ℕ × V) → List ℕ → Type 0
  HasName pairs name = (n : ℕ) × IsAt pairs n name

  -- the name and the value stand at one place
  abbrev pub IsPairOf : List (List ℕ × V) → List ℕ → V → Type 0
  IsPairOf pairs name value = (n : ℕ) × IsAt pairs n name × IsValueAt pairs n value

  -- no name stands at two places
  abbrev pub AreDistinct : List (List ℕ × V) → Type 0
  AreDistinct pairs = (i j : ℕ) (name : List ℕ) → IsAt pairs i name → IsAt pairs j name → i ≡ j

  -- what an error of `add` says of the table and of the name and value that were to be added
  abbrev pub IsRefusal : List (List ℕ × V) → List ℕ → V → AddError V → Type 0
  IsRefusal pairs name value (Taken first k v) = IsAt pairs first name × (k ≡ name) × (v ≡ value)
  IsRefusal pairs name value (NoMemory k v) = (HasName pairs name → ⊥) × (k ≡ name) × (v ≡ value)
