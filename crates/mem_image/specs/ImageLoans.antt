-- What an image ends as, once a `&mut` to a part of it has ended.
use Rattle.std.specs.Prelude.{ℕ, List}
use Rattle.std.specs.Borrow.{Lends, MutBor, Fml, Array, u8}
use Rattle.mem_image.specs.Image.{replaced}
use Rattle.mem_image.specs.contracts.image.Image.{the_row}

-- the part at the offset holds what was written through r, and all other bytes stay
abbrev pub LendsPart : MutBor (List ℕ) → ℕ → MutBor (List ℕ) → Fml
LendsPart image offset r = Lends the_row (Array u8 0) image r (replaced image.now offset)
