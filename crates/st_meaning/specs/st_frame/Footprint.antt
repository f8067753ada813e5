-- The regions that the cycles of a task touch, and those that they write.
use Rattle.std.specs.Prelude.{◌≡◌, ℕ, List, [], ◌∷◌, Some, ◌⊎◌, IsTrue, slice_get}
use Rattle.st_types.specs.declared.st_type.StType.{StType}
use Rattle.st_tree.specs.declared.address.Area.TheVariants as area
use Rattle.st_values.specs.Program.{Routine, Program, conforms, lookup, body_of}
use Rattle.st_values.specs.Value.{Path}
use Rattle.st_meaning.specs.Enter.{program_body, programs_of}
use Rattle.st_meaning.specs.st_frame.Good.{Names}
use Rattle.st_meaning.specs.ProcessImage.{Located, located_of, is_in}
use Rattle.st_meaning.specs.st_frame.Use.{Called, the_function, a_method_of, a_method_from, a_body_of, the_body_from, the_region, the_instances, Use, names, follows, calls, changes, routine_uses}

abbrev pub Has : {A : Type 0} → List A → A → Type 0
Has [] a = ⊥
Has (x ∷ xs) a = (a ≡ x) ⊎ Has xs a

-- The routines that a call may enter: through an instance, reference or interface of a type that of each class that conforms.
pub data Enters (p : Program) : Called → Routine → Type 0 where
  by_number : {k : ℕ} {r : Routine} → slice_get p.functions k ≡ Some r → Enters p (the_function k) r
  by_class : {t : StType} {name : List ℕ} {r : Routine} (c : ℕ) → IsTrue (conforms p c t) → lookup p c name ≡ Some r → Enters p (a_method_of t name) r
  by_text : {d : ℕ} {name : List ℕ} {r : Routine} → lookup p d name ≡ Some r → Enters p (a_method_from d name) r
  by_body : {t : StType} {r : Routine} (c : ℕ) → IsTrue (conforms p c t) → body_of p c ≡ Some r → Enters p (a_body_of t) r
  by_base : {d : ℕ} {r : Routine} → body_of p d ≡ Some r → Enters p (the_body_from d) r

-- The routines that are reachable from a task: the bodies of its programs, and what reachable ones call.
pub data Reached (p : Program) (task : ℕ) : Routine → Type 0 where
  begins : {b : Routine} (r : ℕ) → Has (programs_of p task) r → program_body p r ≡ Some b → Reached p task b
  called : {b c : Routine} (k : Called) → Reached p task b → Has (routine_uses p b) (calls k) → Enters p k c → Reached p task c

-- the region's shape contains an instance that conforms
abbrev pub Contains : Program → ℕ → StType → Type 0
Contains p r t = (q : Path) × (q.region ≡ r) × Names p q t

-- a use adds a region to the footprint
abbrev pub Touches : Program → Use → ℕ → Type 0
Touches p (names g) r = r ≡ g
Touches p (follows t) r = Contains p r t
Touches p _ r = ⊥

-- a use adds a region to what is written
abbrev pub Alters : Program → Use → ℕ → Type 0
Alters p (changes (the_region g)) r = r ≡ g
Alters p (changes (the_instances t)) r = Contains p r t
Alters p _ r = ⊥

pub data Footprint (p : Program) (task : ℕ) (r : ℕ) : Type 0 where
  own_program : Has (programs_of p task) r → Footprint p task r
  touched : (b : Routine) (u : Use) → Reached p task b → Has (routine_uses p b) u → Touches p u r → Footprint p task r

pub data Writes (p : Program) (task : ℕ) (r : ℕ) : Type 0 where
  own_program : Has (programs_of p task) r → Writes p task r
  latched : (x : Located) → Has (located_of p) x → IsTrue (is_in area.Input x) → r ≡ x.path.region → Footprint p task r → Writes p task r
  altered : (b : Routine) (u : Use) → Reached p task b → Has (routine_uses p b) u → Alters p u r → Writes p task r

-- the list has the footprint of the task
pub record IsFootprint (p : Program) (task : ℕ) (fs : List ℕ) : Type 0 where
  pub sound : (r : ℕ) → Has fs r → Footprint p task r
  pub complete : (r : ℕ) → Footprint p task r → Has fs r
