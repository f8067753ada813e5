-- Which values have a spelling, and which bytes it is.
use Rattle.std.specs.Prelude.{◌≡◌, ℕ, ◌+◌, List, Option, length, slice_range}
use Rattle.st_values.specs.Value.{Value}
use Rattle.st_values.specs.Shape.{Shape}
use Rattle.mem_layout.specs.store_bytes.Place.{size}
use Rattle.mem_layout.specs.store_bytes.Spells.{Spells, Suits}
use Rattle.mem_layout.specs.store_bytes.Image.{image_of}

pub record SuitsLaws (regions : ℕ → Option Shape) : Type 0 where
  -- only a value that suits its shape is spelled
  pub suits : (sh : Shape) (v : Value) (image : List ℕ) (i : ℕ) → Spells regions sh v image i → Suits regions sh v
  -- and it is, wherever the bytes of its image stand
  pub spelled : (sh : Shape) (v : Value) (image : List ℕ) (i : ℕ) → Suits regions sh v → slice_range image i (i + size sh) ≡ image_of regions sh v → Spells regions sh v image i
  -- which are as many as the shape has
  pub long : (sh : Shape) (v : Value) → Suits regions sh v → length (image_of regions sh v) ≡ size sh
