-- The bytes with which the regions of a program begin spell its initial values.
use Rattle.std.specs.Prelude.{◌≡◌, ℕ, pos, Bool, true, List, [], ◌∷◌, Option, Some, None, slice_get}
use Rattle.st_types.specs.declared.elem.Elem.TheVariants.{Udint, Ulint}
use Rattle.st_types.specs.Range.{Fits}
use Rattle.st_tree.specs.declared.program.Note.{Note}
use Rattle.st_tree.specs.Initial.{Initial, FieldInits}
use Rattle.st_rules.specs.Chains.{◌or_else◌}
use Rattle.st_values.specs.Program.{Region, Program}
use Rattle.st_values.specs.Shape.{Shape, Elementary, Enumeration, Reference, Interface, Array, Structure, Instance, Fields, no_fields, field_then, shape_of, region_shape}
use Rattle.st_values.specs.Initial.{number_given, list_given, fields_given, given_for, init, initial_store}
use Rattle.mem_layout.specs.store_bytes.Spells.{Suits, Shows}
use Rattle.mem_layout.specs.store_bytes.Image.{image_of}

abbrev pub EachGiven : (Option (Initial Note) → Type 0) → List (Initial Note) → Type 0
EachGiven P [] = Unit {0}
EachGiven P (i ∷ is) = P (Some i) × EachGiven P is

-- the numbers that are given are of their kinds, and the numbers of the classes have 64 bits
abbrev mutual
  pub IsInRange : Shape → Option (Initial Note) → Type 0
  IsInRange (Elementary e) i = Fits e (number_given i)
  IsInRange (Enumeration name values) i = Fits Udint (number_given i)
  IsInRange (Reference c name) i = Unit {0}
  IsInRange (Interface k name) i = Unit {0}
  IsInRange (Array low n sh) i = IsInRange sh None × EachGiven (IsInRange sh) (list_given i)
  IsInRange (Structure name fs) i = AreInRange fs (fields_given i)
  IsInRange (Instance c name fs) i = Fits Ulint (pos c) × AreInRange fs (fields_given i)

  -- a field that is not named has the initial value of its declaration
  pub AreInRange : Fields → FieldInits Note → Type 0
  AreInRange no_fields gs = Unit {0}
  AreInRange (field_then v sh fs) gs = IsInRange sh (given_for v.name gs or_else v.initial) × AreInRange fs gs

-- and so are those of the initial value of each region
pub record StartsInRange (p : Program) : Type 0 where
  pub region : (r : ℕ) (x : Region) (sh : Shape) → slice_get p.regions r ≡ Some x → shape_of p x.variable.kind ≡ Some sh → IsInRange sh x.variable.initial

-- each region that is held has the bytes of its initial value
pub record AreInitial (p : Program) (is_held : ℕ → Bool) (images : List (Option (List ℕ))) : Type 0 where
  pub region : (r : ℕ) (x : Region) (sh : Shape) → is_held r ≡ true → slice_get p.regions r ≡ Some x → shape_of p x.variable.kind ≡ Some sh → slice_get images r ≡ Some (Some (image_of (region_shape p) sh (init sh x.variable.initial)))

pub record InitialLaws (p : Program) : Type 0 where
  -- an initial value has a spelling, as its numbers are in range
  pub suits : (regions : ℕ → Option Shape) (sh : Shape) (i : Option (Initial Note)) → IsInRange sh i → Suits regions sh (init sh i)
  -- the initial images show the store with which the program begins
  pub shows : (is_held : ℕ → Bool) (images : List (Option (List ℕ))) → StartsInRange p → AreInitial p is_held images → Shows (region_shape p) is_held images (initial_store p)
