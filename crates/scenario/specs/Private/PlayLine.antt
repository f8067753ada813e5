-- The play of a line, as it is read.
use Rattle.std.specs.Prelude.{ℕ, suc, ◌&&◌, nat_eq, nat_le, List, [], ◌∷◌, length, drop, codes, Option, Some, None, if◌then◌else◌}
use Rattle.std.specs.List.{starts_with}
use Rattle.std.specs.Result.{result_ok}
use Rattle.hex.specs.Hex.{decode_of}
use Rattle.plc_text.specs.Fields.{first_field, behind_field}
use Rattle.plc_text.specs.Numbers.{number_in}
use Rattle.plc_text.specs.Text.{folded}
use Rattle.plc_text.specs.Words.{same, is_word}
use Rattle.cycle_journal.specs.declared.play.Play.{Play}
use Rattle.cycle_journal.specs.declared.play.Play.TheVariants.{Cycle, Change, Reset}

infixl 10 ◌>>=◌
abbrev pub ◌>>=◌ : {X Y : Type 0} → Option X → (X → Option Y) → Option Y
(Some x) >>= f = f x
None >>= f = None

-- the place of the name among the sources
abbrev pub place_of : List (List ℕ × List ℕ) → List ℕ → Option ℕ
place_of [] name = None
place_of (source ∷ sources) name = if same source.0 name then Some 0 else (place_of sources name >>= λ n. Some (suc n))

-- the bytes of hexadecimal digits, where they are some and not too many
unfoldable pub bytes_in : List ℕ → Option (List ℕ)
bytes_in field = if nat_le 1 (length field) && nat_le (length field) 512 then result_ok (decode_of field) else None

unfoldable pub input_in : List ℕ → Option (List ℕ)
input_in field = if same field (codes "-") then Some [] else bytes_in field

-- of a moment and the input behind it
unfoldable pub cycle_at : List ℕ → List ℕ → Option Play
cycle_at task text = do
  now ← number_in (first_field text)
  input ← input_in (behind_field text)
  Some (Cycle task now input)

-- what stands behind `cycle `
unfoldable pub cycle_in : List ℕ → Option Play
cycle_in text = if is_word (first_field text) then cycle_at (folded (first_field text)) (behind_field text) else None

-- what stands behind `change `
unfoldable pub change_in : List (List ℕ × List ℕ) → List ℕ → Option Play
change_in sources name = if is_word name then (place_of sources (folded name) >>= λ n. Some (Change (folded name) n)) else None

-- what stands behind `reset `
unfoldable pub reset_in : List ℕ → Option Play
reset_in name = if is_word name then Some (Reset (folded name)) else None

unfoldable pub play_in : List (List ℕ × List ℕ) → List ℕ → Option Play
play_in sources line =
    if starts_with nat_eq line (codes "cycle ") then cycle_in (drop 6 line)
    else if starts_with nat_eq line (codes "change ") then change_in sources (drop 7 line)
    else if starts_with nat_eq line (codes "reset ") then reset_in (drop 6 line)
    else None
