-- Regions that are kept, and instances that go on from old ones.
use Rattle.std.specs.Prelude.{ℕ, zero, suc, Bool, true, false, not, ◌&&◌, ◌||◌, if◌then◌else◌, List, [], ◌∷◌, Option, Some, None, slice_get}
use Rattle.plc_text.specs.Words.{same}
use Rattle.st_tree.specs.declared.path.Step.TheVariants as step
use Rattle.st_values.specs.Program.{Variable, Region, Program}
use Rattle.st_values.specs.Value.{Path, Step, ◌>>=◌}
use Rattle.st_values.specs.Shape.{Shape, Elementary, Enumeration, Reference, Interface, Array, Structure, Instance, Fields, no_fields, field_then, shape_part, region_shape, path_shape, has_instance, same_shape}
use Rattle.st_change.specs.From.{old_region, new_region, old_path, new_path}

-- ---- kept regions

-- whether a variable that is initialised at each change, and whose shape contains an instance, lies in the shape
abbrev mutual
  pub has_fresh : Shape → Bool
  has_fresh (Elementary e) = false
  has_fresh (Enumeration name values) = false
  has_fresh (Reference c name) = false
  has_fresh (Interface i name) = false
  has_fresh (Array low n sh) = has_fresh sh
  has_fresh (Structure name fs) = a_field_is_fresh fs
  has_fresh (Instance c name fs) = a_field_is_fresh fs

  pub a_field_is_fresh : Fields → Bool
  a_field_is_fresh no_fields = false
  a_field_is_fresh (field_then v sh fs) = ((v.marks.init_on_change && has_instance sh) || has_fresh sh) || a_field_is_fresh fs

abbrev pub equal_shapes : Option Shape → Option Shape → Bool
equal_shapes (Some a) (Some b) = same_shape a b
equal_shapes _ _ = false

abbrev pub is_fresh : Variable → Option Shape → Bool
is_fresh v None = false
is_fresh v (Some sh) = (v.marks.init_on_change && has_instance sh) || has_fresh sh

abbrev pub keeps : Program → Program → ℕ → Option Region → Option ℕ → Bool
keeps old new r (Some x) (Some o) = equal_shapes (region_shape new r) (region_shape old o) && not (is_fresh x.variable (region_shape new r))
keeps old new r _ _ = false

-- A region of the new program stays as it is: the old one of its From has an equal shape.
unfoldable pub kept : Program → Program → ℕ → Bool
kept old new r = keeps old new r (slice_get new.regions r) (old_region old new r)

abbrev pub was_kept_as : Program → Program → Option ℕ → Bool
was_kept_as old new None = false
was_kept_as old new (Some r) = kept old new r

-- an old region is kept where a kept one comes from it
abbrev pub was_kept : Program → Program → ℕ → Bool
was_kept old new r = was_kept_as old new (new_region old new r)

-- ---- counterparts

abbrev pub is_unmarked : Variable → Bool
is_unmarked v = not (v.marks.init_on_change || v.marks.no_copy)

abbrev pub unmarked_field : Fields → ℕ → Bool
unmarked_field no_fields k = false
unmarked_field (field_then v sh fs) zero = is_unmarked v
unmarked_field (field_then v sh fs) (suc k) = unmarked_field fs k

abbrev pub unmarked_step : Shape → Step → Bool
unmarked_step (Structure name fs) (step.Field k) = unmarked_field fs k
unmarked_step (Instance c name fs) (step.Field k) = unmarked_field fs k
unmarked_step sh s = true

-- no variable on the way is marked
abbrev pub unmarked_steps : Option Shape → List Step → Bool
unmarked_steps None ss = false
unmarked_steps (Some sh) [] = true
unmarked_steps (Some sh) (s ∷ ss) = unmarked_step sh s && unmarked_steps (shape_part sh s) ss

abbrev pub unmarked_region : Option Region → Bool
unmarked_region None = false
unmarked_region (Some x) = is_unmarked x.variable

-- a new path whose region moves, and on which no variable is marked
abbrev pub moves : Program → Program → Path → Bool
moves old new q = not (kept old new q.region) && (unmarked_region (slice_get new.regions q.region) && unmarked_steps (region_shape new q.region) q.steps)

abbrev pub is_instance_of : List ℕ → Option Shape → Bool
is_instance_of name (Some (Instance c n fs)) = same n name
is_instance_of name _ = false

-- the old instance from which a new one, of a class of this name, goes on
abbrev pub old_counterpart : Program → Program → Path → List ℕ → Option Path
old_counterpart old new q name = do
  r ← old_path old new q
  if moves old new q && is_instance_of name (path_shape old r) then Some r else None

-- and the new instance that goes on from an old one
abbrev pub new_counterpart : Program → Program → Path → List ℕ → Option Path
new_counterpart old new r name = do
  q ← new_path old new r
  if moves old new q && is_instance_of name (path_shape new q) then Some q else None
