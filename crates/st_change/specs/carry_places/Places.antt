-- What one place comes from, and whether it is carried.
use Rattle.std.specs.Prelude.{◌≡◌, ℕ, zero, suc, Bool, true, false, not, ◌&&◌, List, [], ◌∷◌, Option, Some, None, slice_get}
use Rattle.plc_text.specs.Words.{same}
use Rattle.st_tree.specs.declared.path.Path.{Path}
use Rattle.st_tree.specs.declared.path.Step.{Step}
use Rattle.st_tree.specs.declared.path.Step.TheVariants as step
use Rattle.st_values.specs.Program.{Region, Program}
use Rattle.st_values.specs.Value.{Value, Store, at, ◌>>=◌}
use Rattle.st_values.specs.Shape.{Shape, Elementary, Enumeration, Array, Structure, Instance, Fields, no_fields, field_then, shape_part, region_shape, path_shape}
use Rattle.st_change.specs.From.{structure_pairs, class_pairs, old_name, field_name, same_flag, old_path}
use Rattle.st_change.specs.Counterpart.{kept}
use Rattle.st_change.specs.Carry.{Old, old_element, field_before, variable_before, before_by, stays}
use Rattle.st_change.specs.Change.{region_before}

-- of a number, or of an enumerator
abbrev pub is_number : Shape → Bool
is_number (Elementary e) = true
is_number (Enumeration name values) = true
is_number sh = false

-- a new and an old shape are both arrays, or structures or instances of one name
abbrev pub are_alike : Shape → Shape → Bool
are_alike (Array low n sh) (Array m k x) = true
are_alike (Structure name fs) (Structure n gs) = same n name
are_alike (Instance c name fs) (Instance d n gs) = same n name
are_alike _ _ = false

-- and so are all on the way of a new and an old path
abbrev pub alike_along : Option Shape → Option Shape → List Step → List Step → Bool
alike_along (Some a) (Some b) [] [] = true
alike_along (Some a) (Some b) (s ∷ ss) (t ∷ ts) = are_alike a b && alike_along (shape_part a s) (shape_part b t) ss ts
alike_along _ _ _ _ = false

module _ (old new : Program) where
  -- ---- what a place comes from

  -- from which old value a part of a new one comes: an element from the one of its index, a field from the one of its old name
  abbrev pub old_part : Shape → Old → Step → Old
  old_part (Array low n sh) o (step.Element i) = old_element o i
  old_part (Structure name fs) o (step.Field k) = before_by (field_before name o) (field_name fs k >>= old_name (structure_pairs old new name))
  old_part (Instance c name fs) o (step.Field k) = before_by (variable_before name o) (field_name fs k >>= old_name (class_pairs old new c))
  old_part sh o s = None

  -- and what lies behind these steps
  abbrev pub old_along : Shape → Old → List Step → Old
  old_along sh o [] = o
  old_along sh o (s ∷ ss) = do
    part ← shape_part sh s
    old_along part (old_part sh o s) ss

  -- from which value of an old store the place of a new path comes
  abbrev pub old_at : Store → Path → Old
  old_at before q = do
    sh ← region_shape new q.region
    old_along sh (region_before old new before q.region) q.steps

  -- ---- whether a place is carried

  module _ (keeping : Bool) where
    -- the field of this number does not stay as the new store has it
    abbrev pub free_field : Fields → ℕ → Bool
    free_field no_fields k = false
    free_field (field_then v sh fs) zero = not (stays old new keeping v)
    free_field (field_then v sh fs) (suc k) = free_field fs k

    abbrev pub free_step : Shape → Step → Bool
    free_step (Structure name fs) (step.Field k) = free_field fs k
    free_step (Instance c name fs) (step.Field k) = free_field fs k
    free_step sh s = true

    -- no variable on the way stays
    abbrev pub none_stays : Option Shape → List Step → Bool
    none_stays None ss = false
    none_stays (Some sh) [] = true
    none_stays (Some sh) (s ∷ ss) = free_step sh s && none_stays (shape_part sh s) ss

    -- the region of this number is carried now
    abbrev pub region_goes : ℕ → Option Region → Bool
    region_goes r None = false
    region_goes r (Some x) = same_flag keeping (kept old new r) && not (stays old new keeping x.variable)

    -- and so is what lies at the path
    abbrev pub goes : Path → Bool
    goes q = region_goes q.region (slice_get new.regions q.region) && none_stays (region_shape new q.region) q.steps

-- This value of an old store, with its shape, is at the old path of a new path, and the ways of both are alike.
pub record ComesFrom (old new : Program) (before : Store) (q : Path) (a : Shape × Value) : Type 0 where
  pub path : Path
  pub is_old : old_path old new q ≡ Some path
  pub shape : path_shape old path ≡ Some a.0
  pub value : at before path ≡ Some a.1
  pub alike : alike_along (region_shape new q.region) (region_shape old path.region) q.steps path.steps ≡ true
