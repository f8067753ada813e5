-- The instances that shapes hold are added to a list.
use Rattle.std.specs.Prelude.{◌≡◌, ℕ, ℤ, Bool, true, false, if◌then◌else◌, List, [], ◌++◌, map, Option}
use Rattle.st_tree.specs.declared.path.Path.{Path}
use Rattle.st_values.specs.Program.{Program}
use Rattle.st_values.specs.Shape.{Shape, Fields, region_shape}
use Rattle.st_change.specs.Instances.{Member, along_elements, members_first, fields_first, owner_first, owner_fields, walk_region}
use Rattle.reference_hooks.specs.declared.hooks.Instance.{Instance}
use Rattle.reference_hooks.specs.Hooks.{member_of}
use Rattle.shape_trees.specs.declared.shape.Shape.{Shape as CodeShape}
use Rattle.shape_trees.specs.declared.shape.Field.{Field as CodeField}
use Rattle.shape_trees.specs.Numbers.{is_numbered, are_numbered}
use Rattle.shape_trees.specs.Shape.{shape_of, fields_of}
use Rattle.shape_trees.specs.Unfolding.{AreShapes}
use Rattle.change_kept.specs.declared.instances.Owner.{Owner}
use Rattle.change_kept.specs.declared.instances.Owner.TheVariants as owner

abbrev pub is_first : Owner → Bool
is_first owner.First = true
is_first owner.Last = false

abbrev pub in_shape : Owner → Shape → Path → List Member
in_shape owner.First = owner_first
in_shape owner.Last = members_first

-- from this field on
abbrev pub in_fields : Owner → Fields → Path → ℕ → List Member
in_fields owner.First = owner_fields
in_fields owner.Last = fields_first

abbrev pub all_of : Program → List Instance → List Member
all_of p xs = map (member_of p) xs

-- The instances of a place are added, for each program whose numbers its shape has.
pub record AddsShape (o : Owner) (sh : CodeShape) (q : Path) (before after : List Instance) : Type 0 where
  pub by : (p : Program) → is_numbered p sh ≡ true → all_of p after ≡ all_of p before ++ in_shape o (shape_of sh) q

pub record AddsFields (o : Owner) (fs : List CodeField) (q : Path) (before after : List Instance) : Type 0 where
  pub by : (p : Program) → are_numbered p fs ≡ true → all_of p after ≡ all_of p before ++ in_fields o (fields_of fs) q 0

pub record AddsElements (o : Owner) (sh : CodeShape) (q : Path) (low : ℤ) (count : ℕ) (before after : List Instance) : Type 0 where
  pub by : (p : Program) → is_numbered p sh ≡ true → all_of p after ≡ all_of p before ++ along_elements (in_shape o (shape_of sh)) q low count

-- and those of a region, where they are wanted
pub record AddsRegion (wanted : Bool) (o : Owner) (shapes : List (Option CodeShape)) (r : ℕ) (before after : List Instance) : Type 0 where
  pub by : (p : Program) → AreShapes p shapes → all_of p after ≡ all_of p before ++ (if wanted then walk_region (in_shape o) (region_shape p r) r else [])
