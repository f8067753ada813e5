-- Images that are filled with initial values.
use Rattle.std.specs.Prelude.{◌≡◌, ◌≤◌, ℕ, ◌+◌, ◌-◌, ◌*◌, ◌<◌, List, Option, Some, None, length}
use Rattle.st_types.specs.declared.st_type.StType.{StType}
use Rattle.st_tree.specs.declared.path.Step.TheVariants as step
use Rattle.st_tree.specs.declared.program.Note.{Note}
use Rattle.st_tree.specs.Initial.{Initial, FieldInits}
use Rattle.st_values.specs.Program.{Variable, Program}
use Rattle.st_values.specs.Value.{Value, Values, Members, element}
use Rattle.st_values.specs.Shape.{Shape, Fields, fields_by, shape_within, region_shape}
use Rattle.st_values.specs.Initial.{elements, init, inits}
use Rattle.mem_layout.specs.store_bytes.Place.{size, ending, field_place, part_place}
use Rattle.mem_layout.specs.store_bytes.Spells.{count, Blank, Spells, EachSpells}
use Rattle.mem_layout.specs.store_bytes.StoreLaws.{Keeps}
use Rattle.mem_layout.specs.store_bytes.InitialLaws.{EachGiven, IsInRange, AreInRange}
use Rattle.mem_layout.specs.Layout.{IsSmall, EachIsSmall, HasShape}

-- so many zeros from an offset on
pub record IsRoom (image : List ℕ) (i n : ℕ) : Type 0 where
  pub within : i + n ≤ length image
  pub blank : Blank image i n

module _ (regions : ℕ → Option Shape) where
  -- with a value that was written at an offset
  pub record FillsAt (sh : Shape) (v : Value) (i : ℕ) (image image' : List ℕ) : Type 0 where
    pub spells : Spells regions sh v image' i
    pub keeps : Keeps image image' i (size sh)
    pub long : length image' ≡ length image

  -- with fields behind an offset of what begins at i
  pub record FillsFields (off : ℕ) (fs : Fields) (ms : Members) (i : ℕ) (image image' : List ℕ) : Type 0 where
    pub spells : EachSpells regions off fs ms image' i
    pub keeps : Keeps image image' (i + off) (ending off fs - off)
    pub long : length image' ≡ length image

  -- with elements from an offset on
  pub record FillsElements (sh : Shape) (vs : Values) (i : ℕ) (image image' : List ℕ) : Type 0 where
    pub spells : (k : ℕ) → k < count vs → (w : Value) × (element vs k ≡ Some w) × Spells regions sh w image' (i + k * size sh)
    pub keeps : Keeps image image' i (count vs * size sh)
    pub long : length image' ≡ length image

-- what is asked of a program, a type, what is given to it, and an image with room for it
module _ (p : Program) (n : ℕ) where
  pub record CanFill (t : StType) (given : Option (Initial Note)) (i : ℕ) (image : List ℕ) : Type 0 where
    pub shape : Shape
    pub unfolds : shape_within p n t ≡ Some shape
    pub deep : n ≤ 65
    pub small : IsSmall shape
    pub range : IsInRange shape given
    pub room : IsRoom image i (size shape)
    pub few : length image < 4294967296

  -- the same of so many elements, which have so many bytes
  pub record CanFillElements (t : StType) (many bytes : ℕ) (givens : List (Initial Note)) (i : ℕ) (image : List ℕ) : Type 0 where
    pub shape : Shape
    pub unfolds : shape_within p n t ≡ Some shape
    pub deep : n ≤ 65
    pub small : IsSmall shape
    pub none : IsInRange shape None
    pub each : EachGiven (IsInRange shape) givens
    pub bytes-are : bytes ≡ many * size shape
    pub room : IsRoom image i (many * size shape)
    pub few : length image < 4294967296

  -- and of the variables of a structure or an instance that begins at i
  pub record CanFillFields (t : StType) (vs : List Variable) (givens : FieldInits Note) (i : ℕ) (image : List ℕ) : Type 0 where
    pub start : ℕ
    pub fields : Fields
    pub unfolds : fields_by (shape_within p n) vs ≡ Some fields
    pub has : HasShape p t
    pub parts : (k : ℕ) → part_place has.shape (step.Field k) ≡ field_place start fields k
    pub deep : n ≤ 65
    pub small : EachIsSmall fields
    pub range : AreInRange fields givens
    pub room : IsRoom image (i + start) (ending start fields - start)
    pub few : length image < 4294967296

  -- the image then
  pub record Filled (t : StType) (given : Option (Initial Note)) (i : ℕ) (image image' : List ℕ) : Type 0 where
    pub by : (sh : Shape) → shape_within p n t ≡ Some sh → FillsAt (region_shape p) sh (init sh given) i image image'

  pub record ElementsFilled (t : StType) (many : ℕ) (givens : List (Initial Note)) (i : ℕ) (image image' : List ℕ) : Type 0 where
    pub by : (sh : Shape) → shape_within p n t ≡ Some sh → FillsElements (region_shape p) sh (elements (init sh) many givens) i image image'

  pub record FieldsFilled (t : StType) (vs : List Variable) (givens : FieldInits Note) (i : ℕ) (image image' : List ℕ) : Type 0 where
    pub by : (q : CanFillFields t vs givens i image) → FillsFields (region_shape p) q.start q.fields (inits q.fields givens) i image image'
