-- Reading a candidate from a line: what each private function of the reader does. A line is taken only where the candidate
-- fits and its own text is the line, so what is read here need not be exact; proofs/ has the law that an entry's own line
-- gives the entry.
use Rattle.std.specs.Prelude.{◌≡◌, ℕ, ◌/◌, nat_le, find, List, [], ◌∷◌, length, codes, Option, Some, None, Result, Ok, Err, if◌then◌else◌, refl}
use Rattle.std.specs.Result.{result_ok}
use Rattle.std.specs.Str.{bytes_eq}
use Rattle.plc_text.specs.Code.{code_name}
use Rattle.plc_text.specs.Fault.{fault_name}
use Rattle.plc_text.specs.declared.code.Code.{Code}
use Rattle.plc_text.specs.declared.code.Code.TheVariants.{E01, E02, E03, E04, E05, E06, E07, E08, E09, E10, E11, E12, E13, E14, E15, E16, E17}
use Rattle.plc_text.specs.declared.fault.FaultKind.{FaultKind}
use Rattle.plc_text.specs.declared.fault.FaultKind.TheVariants.{Divide, Index, Null, Step, Watchdog, Depth}
use Rattle.plc_text.specs.declared.refusal.Refusal.{Refusal}
use Rattle.hex.specs.Hex.{decode_sized}
use Rattle.cycle_journal.specs.declared.play.Play.{Play}
use Rattle.cycle_journal.specs.declared.play.Play.TheVariants.{Cycle}
use Rattle.cycle_journal.specs.declared.entry.Entry.{Entry}
use Rattle.cycle_journal.specs.declared.entry.Answer.{Answer}
use Rattle.cycle_journal.specs.declared.entry.Answer.TheVariants.{Done, Fault, Held, NoTask, Loaded, Refused, RefusedMemory, Released}
use Rattle.cycle_journal.specs.declared.line_error.LineError.{LineError}
use Rattle.cycle_journal.specs.declared.line_error.LineError.TheVariants as errors
use Rattle.plc_text.specs.Fields.{first_field, behind_field}
use Rattle.plc_text.specs.Numbers.{number_in}
use Rattle.cycle_journal.specs.Play.{play_numbered}

infixl 10 ◌>>=◌
abbrev pub ◌>>=◌ : {X Y : Type 0} → Option X → (X → Option Y) → Option Y
(Some x) >>= f = f x
None >>= f = None

-- a function of the reader does this reading, unless memory runs out
abbrev pub Gives : {X : Type 0} → Result X LineError → Option X → Type 0
Gives (Ok x) reading = reading ≡ Some x
Gives (Err errors.Bad) reading = reading ≡ None
Gives (Err errors.NoMemory) reading = Unit {0}

unfoldable pub code_in : List ℕ → Option Code
code_in word = find (λ code. bytes_eq (code_name code) word) (E01 ∷ E02 ∷ E03 ∷ E04 ∷ E05 ∷ E06 ∷ E07 ∷ E08 ∷ E09 ∷ E10 ∷ E11 ∷ E12 ∷ E13 ∷ E14 ∷ E15 ∷ E16 ∷ E17 ∷ [])

unfoldable pub fault_kind_in : List ℕ → Option FaultKind
fault_kind_in word = find (λ kind. bytes_eq (fault_name kind) word) (Divide ∷ Index ∷ Null ∷ Step ∷ Watchdog ∷ Depth ∷ [])

-- output bytes in hexadecimal
unfoldable pub hex_in : List ℕ → Option (List ℕ)
hex_in word = if nat_le (length word / 2) 256 then result_ok (decode_sized word (length word / 2)) else None

unfoldable pub outputs_in : List ℕ → Option (List ℕ)
outputs_in word = if bytes_eq word (codes "-") then Some [] else hex_in word

unfoldable pub done_in : List ℕ → Option Answer
done_in text = do
  ticks ← number_in (first_field text)
  outputs ← outputs_in (behind_field text)
  Some (Done ticks outputs)

unfoldable pub fault_in : List ℕ → Option Answer
fault_in text = do
  kind ← fault_kind_in (first_field text)
  line ← number_in (behind_field text)
  Some (Fault (record { kind = kind; line = line }))

-- a kind of fault, or nothing where no field is left
unfoldable pub kind_in : List ℕ → Option (Option FaultKind)
kind_in [] = Some None
kind_in (b ∷ bytes) = fault_kind_in (b ∷ bytes) >>= λ kind. Some (Some kind)

-- the refusal of these parts, which has a kind of fault exactly at E17
unfoldable pub refusal_of : Code → List ℕ → ℕ → Option FaultKind → Option Refusal
refusal_of E17 declaration line None = None
refusal_of E17 declaration line (Some kind) = Some (record { code = E17; declaration = declaration; line = line; kind = Some kind; kind_with_e17 = refl })
refusal_of code declaration line (Some kind) = None
refusal_of code declaration line None = Some (record { code = code; declaration = declaration; line = line; kind = None; kind_with_e17 = refl })

unfoldable pub refusal_in : List ℕ → Option Refusal
refusal_in text = do
  code ← code_in (first_field text)
  line ← number_in (first_field (behind_field (behind_field text)))
  kind ← kind_in (behind_field (behind_field (behind_field text)))
  refusal_of code (first_field (behind_field text)) line kind

unfoldable pub refused_in : List ℕ → Option Answer
refused_in text =
    if bytes_eq text (codes "memory") then Some RefusedMemory
    else (refusal_in text >>= λ r. Some (Refused r))

unfoldable pub ended_in : List ℕ → Option Answer
ended_in [] = Some Released
ended_in (b ∷ bytes) = done_in (b ∷ bytes)

-- the answer of a field and what stands behind it
unfoldable pub answer_of : List ℕ → List ℕ → Option Answer
answer_of word text =
    if bytes_eq word (codes "ok") then ended_in text
    else if bytes_eq word (codes "fault") then fault_in text
    else if bytes_eq word (codes "held") then Some Held
    else if bytes_eq word (codes "notask") then (number_in text >>= λ since. Some (NoTask since))
    else if bytes_eq word (codes "loaded") then (number_in text >>= λ version. Some (Loaded version))
    else if bytes_eq word (codes "refused") then refused_in text
    else None

-- what stands behind the fields of the play
abbrev pub behind_play : Play → List ℕ → List ℕ
behind_play (Cycle task now input) text = behind_field (behind_field (behind_field text))
behind_play _ text = behind_field (behind_field text)

unfoldable pub answer_in : Play → List ℕ → Option Answer
answer_in play text = answer_of (first_field (behind_play play text)) (behind_field (behind_play play text))

unfoldable pub entry_in : List Play → List ℕ → Option Entry
entry_in plays line = do
  version ← number_in (first_field line)
  number ← number_in (first_field (behind_field line))
  play ← play_numbered plays number
  answer ← answer_in play (behind_field (behind_field line))
  Some (record { version = version; play = number; answer = answer })
