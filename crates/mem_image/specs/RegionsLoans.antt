-- What a table of images ends as, once a `&mut` to one of them has ended.
use Rattle.std.specs.Prelude.{ℕ, List, Option, Some, slice_set}
use Rattle.std.specs.Borrow.{LendsIf, MutBor, Fml}
use Rattle.mem_image.specs.contracts.image.Image.{the_row as image_row}
use Rattle.mem_image.specs.contracts.regions.Regions.{the_row}

-- the place holds what was written through r, and all others stay; where it is empty, so does the table
abbrev pub LendsImage : MutBor (List (Option (List ℕ))) → ℕ → Option (MutBor (List ℕ)) → Fml
LendsImage table region r = LendsIf the_row image_row table r (λ image. slice_set table.now region (Some image)) table.now
