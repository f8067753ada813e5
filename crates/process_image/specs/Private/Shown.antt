-- The outputs with their numbers.
use Rattle.std.specs.Prelude.{ℕ, ℤ, ◌+◌, max, if◌then◌else◌, List, [], ◌∷◌, ◌++◌, map}
use Rattle.st_values.specs.Value.{Store, at}
use Rattle.st_meaning.specs.ProcessImage.{Located, is_shown, number_or_zero, first_byte, size_of, share}
use Rattle.process_image.specs.declared.outputs.Shown.{Shown as CodeShown}

pub record Shown : Type 0 where
  pub address : List ℕ
  pub number : ℤ

abbrev pub shown_of : CodeShown → Shown
shown_of x = record { address = x.address.now; number = x.number }

abbrev pub all_shown : List CodeShown → List Shown
all_shown xs = map shown_of xs

abbrev pub one_shown : List ℕ → Store → Located → List Shown
one_shown fs s x = if is_shown fs x then record { address = x.address; number = number_or_zero (at s x.path) } ∷ [] else []

abbrev pub shown_in : List ℕ → Store → List Located → List Shown
shown_in fs s [] = []
shown_in fs s (x ∷ xs) = one_shown fs s x ++ shown_in fs s xs

-- byte b of all of them
abbrev pub byte_in : List Shown → ℕ → ℕ
byte_in [] b = 0
byte_in (x ∷ xs) b = share x.address x.number b + byte_in xs b

-- how many bytes there are up to the last that one covers
abbrev pub covered_by : List Shown → ℕ
covered_by [] = 0
covered_by (x ∷ xs) = max (first_byte x.address + size_of x.address) (covered_by xs)
