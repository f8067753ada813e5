-- The classes of each class and interface, as they are noted.
use Rattle.std.specs.Prelude.{◌≡◌, ℕ, ◌<◌, true, false, ◌++◌, ◌⊎◌, if◌then◌else◌, List, [], ◌∷◌, Option, Some, None, IsTrue}
use Rattle.std.specs.HashMap.{HashMap, get}
use Rattle.st_types.specs.declared.st_type.StType.TheVariants as type
use Rattle.st_values.specs.Program.{Program, conforms}
use Rattle.st_meaning.specs.st_frame.Footprint.{Has}
use Rattle.footprints.specs.reached_routines.Families.{Family, kind_of, same_family}

abbrev pub numbers_of : Option (List ℕ) → List ℕ
numbers_of None = []
numbers_of (Some ns) = ns

abbrev pub classes_at : {S : Type 0} → HashMap Family (List ℕ) S → Family → List ℕ
classes_at m f = numbers_of (get same_family m f)

abbrev pub classes_if : {S : Type 0} → HashMap Family (List ℕ) S → Option Family → List ℕ
classes_if m None = []
classes_if m (Some f) = classes_at m f

-- one family has one class more, and the others have what they had
pub record IsNoted {S T : Type 0} (old : HashMap Family (List ℕ) S) (new : HashMap Family (List ℕ) T) (f : Family) (c : ℕ) : Type 0 where
  pub at : (q : Family) → classes_at new q ≡ (if same_family f q then classes_at old q ++ c ∷ [] else classes_at old q)

-- the families that pass have this class more, but those that are left, and nothing else has
pub record NotesBut {S T : Type 0} (P L : Family → Type 0) (c : ℕ) (old : HashMap Family (List ℕ) S) (new : HashMap Family (List ℕ) T) : Type 0 where
  pub kept : (f : Family) (x : ℕ) → Has (classes_at old f) x → Has (classes_at new f) x
  pub only : (f : Family) (x : ℕ) → Has (classes_at new f) x → Has (classes_at old f) x ⊎ ((x ≡ c) × P f)
  pub all : (f : Family) → P f → Has (classes_at new f) c ⊎ L f

abbrev pub Nothing : Family → Type 0
Nothing f = ⊥

-- the classes of a list, as families
abbrev pub IsClassIn : List ℕ → Family → Type 0
IsClassIn ds f = (f.0 ≡ false) × Has ds f.1

-- the interface of this number, where the class conforms to it
abbrev pub IsConformedTo : Program → ℕ → ℕ → Family → Type 0
IsConformedTo p c i f = (f ≡ (true, i)) × IsTrue (conforms p c (type.Interface i))

-- the interfaces below this number to which the class conforms
abbrev pub IsInterfaceUpTo : Program → ℕ → ℕ → Family → Type 0
IsInterfaceUpTo p c n f = (f.0 ≡ true) × (f.1 < n) × IsTrue (conforms p c (type.Interface f.1))

abbrev pub Conforms : Program → ℕ → Family → Type 0
Conforms p c f = IsTrue (conforms p c (kind_of f))

-- each family has just the classes below this number that conform
pub record AreFamilies {S : Type 0} (p : Program) (n : ℕ) (m : HashMap Family (List ℕ) S) : Type 0 where
  pub sound : (f : Family) (c : ℕ) → Has (classes_at m f) c → Conforms p c f
  pub complete : (f : Family) (c : ℕ) → c < n → Conforms p c f → Has (classes_at m f) c
