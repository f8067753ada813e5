-- Regions carried from the images of an old program into those of a new one.
use Rattle.std.specs.Prelude.{ℕ, suc, ℤ, Bool, true, if◌then◌else◌, List, [], ◌∷◌, Option, Some, None, slice_get}
use Rattle.st_types.specs.declared.st_type.StType.{StType}
use Rattle.st_values.specs.Program.{Program}
use Rattle.st_values.specs.Value.{Store, ◌>>=◌}
use Rattle.st_values.specs.Shape.{region_shape}
use Rattle.mem_layout.specs.store_bytes.Spells.{Shows}
use Rattle.st_meaning.specs.st_frame.Good.{Good}
use Rattle.st_change.specs.From.{old_region}
use Rattle.st_change.specs.carry_places.Places.{region_goes}
use Rattle.image_moves.specs.Moves.{Moves, moved}
use Rattle.carry_moves.specs.CarryMoves.{moves_of}

-- the images of all regions
abbrev pub Images : Type 0
Images = List (Option (List ℕ))

abbrev pub every : ℕ → Bool
every r = true

-- images of all regions that show a good store
pub record Clean (p : Program) (images : Images) (s : Store) : Type 0 where
  pub shows : Shows (region_shape p) every images s
  pub good : Good p s

-- an old region, and the moves from it
abbrev pub Source : Type 0
Source = Option (ℕ × Moves)

module _ (old new : Program) (aim : StType → ℕ) (keeping : Bool) where
  abbrev pub moves_from : ℕ → Source
  moves_from r = do
    o ← old_region old new r
    x ← region_shape old o
    sh ← region_shape new r
    Some (o, moves_of old new aim keeping sh x 0 0)

  -- of a new region that is carried now: what the plan holds of it
  abbrev pub region_moves : ℕ → Source
  region_moves r = if region_goes old new keeping r (slice_get new.regions r) then moves_from r else None

abbrev pub moved_from : (ℕ → ℤ → ℤ) → Moves → Option (Option (List ℕ)) → List ℕ → List ℕ
moved_from relocated ms (Some (Some source)) image = moved relocated source ms 0 0 image
moved_from relocated ms _ image = image

abbrev pub carried_from : (ℕ → ℤ → ℤ) → Images → Source → List ℕ → List ℕ
carried_from relocated olds None image = image
carried_from relocated olds (Some a) image = moved_from relocated a.1 (slice_get olds a.0) image

abbrev pub carried_image : (ℕ → ℤ → ℤ) → Images → Source → Option (List ℕ) → Option (List ℕ)
carried_image relocated olds a None = None
carried_image relocated olds a (Some image) = Some (carried_from relocated olds a image)

-- the new images from the region of this number on
abbrev pub carry_from : (ℕ → ℤ → ℤ) → (ℕ → Source) → Images → ℕ → Images → Images
carry_from relocated plan olds r [] = []
carry_from relocated plan olds r (i ∷ is) = carried_image relocated olds (plan r) i ∷ carry_from relocated plan olds (suc r) is

abbrev pub carry_images : (ℕ → ℤ → ℤ) → (ℕ → Source) → Images → Images → Images
carry_images relocated plan olds news = carry_from relocated plan olds 0 news
