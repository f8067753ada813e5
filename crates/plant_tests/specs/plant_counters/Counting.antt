-- What counters mean: three of them with a byte each, of which the third is the gate of all, and a fourth that changes add and take away.
use Rattle.std.specs.Prelude.{◌≡◌, ℕ, ◌+◌, ◌-◌, ◌%◌, ◌==◌, List, [], ◌∷◌, length, Option, Some, None, Result, Ok, Err, slice_set, if◌then◌else◌, Bool, true, false, nat_lt, nat_eq, codes, refl}
use Rattle.plc_text.specs.declared.code.Code.TheVariants as code
use Rattle.plc_text.specs.declared.fault.FaultKind.TheVariants as kind
use Rattle.plc_text.specs.declared.refusal.Refusal.{Refusal}
use Rattle.cycle_journal.specs.declared.entry.CycleReply.{CycleReply}
use Rattle.cycle_journal.specs.declared.entry.CycleReply.TheVariants.{Done, Fault}
use Rattle.plant_tests.specs.declared.plant_counters.counters.Counters.{Counters}
use Rattle.plant_rules.specs.Meaning.{Contents, Meaning, bytes_at}

-- a region is one byte
abbrev pub IsCounter : List ℕ → Type 0
IsCounter bytes = (b : ℕ) × (bytes ≡ b ∷ [])

abbrev pub byte_in : List ℕ → ℕ
byte_in [] = 0
byte_in (b ∷ bs) = b

abbrev pub byte_of : Option (List ℕ) → ℕ
byte_of None = 0
byte_of (Some bytes) = byte_in bytes

abbrev pub total_by : Bool → ℕ
total_by true = 4
total_by false = 3

abbrev pub total : Counters → ℕ
total p = total_by p.wide

-- tasks are named by letters, from A on
abbrev pub named_by : ℕ → List ℕ → Option ℕ
named_by n [] = None
named_by n (b ∷ []) = if nat_lt b 65 then None else (if nat_lt (b - 65) n then Some (b - 65) else None)
named_by n (b ∷ c ∷ bs) = None

-- a task has its own counter and the gate, and writes its own
abbrev pub reads_by : Bool → Bool → ℕ → List ℕ
reads_by true b t = t ∷ 2 ∷ []
reads_by false true t = t ∷ []
reads_by false false t = 2 ∷ t ∷ []

abbrev pub reads_of : ℕ → List ℕ
reads_of t = reads_by (nat_lt t 2) (nat_eq t 2) t

abbrev pub writes_of : ℕ → List ℕ
writes_of t = t ∷ []

-- A cycle adds the moment and the first byte of the input, and answers the counter; it stops at a gate of 255.
abbrev pub counted : ℕ → ℕ → List ℕ → Contents → ℕ
counted t now input c = (byte_of (bytes_at c t) + now + byte_in input) % 256

abbrev pub reply_by : Bool → ℕ → CycleReply
reply_by true n = Fault (record { kind = kind.Null; line = 1 })
reply_by false n = Done n (n ∷ [])

abbrev pub left_when : Bool → Contents → Contents → Contents
left_when true c d = c
left_when false c d = d

abbrev pub reply_after : ℕ → ℕ → List ℕ → Contents → CycleReply
reply_after t now input c = reply_by (byte_of (bytes_at c 2) == 255) (counted t now input c)

abbrev pub after_cycle : ℕ → ℕ → List ℕ → Contents → Contents
after_cycle t now input c = left_when (byte_of (bytes_at c 2) == 255) c (slice_set c t (Some (counted t now input c ∷ [])))

-- A text that begins with `+` has the fourth counter, one that begins with another byte has it not, and an empty one is refused.
abbrev pub is_wide : List ℕ → Bool
is_wide text = byte_in text == 43

abbrev pub empty_refusal : Refusal
empty_refusal = record { code = code.E02; declaration = codes "-"; line = 1; kind = None; kind_with_e17 = refl }

abbrev pub stop_refusal : Refusal
stop_refusal = record { code = code.E17; declaration = codes "A"; line = 1; kind = Some kind.Null; kind_with_e17 = refl }

abbrev pub fourth : Option (List ℕ) → Option (List ℕ)
fourth None = Some (0 ∷ [])
fourth (Some bytes) = Some bytes

abbrev pub fourth_by : Bool → Option (List ℕ) → Contents
fourth_by true o = fourth o ∷ []
fourth_by false o = []

abbrev pub resized : Bool → Contents → Contents
resized wide c = bytes_at c 0 ∷ bytes_at c 1 ∷ bytes_at c 2 ∷ fourth_by wide (bytes_at c 3)

-- a change stops where the first counter is at 7
abbrev pub changed_when : Bool → Bool → ℕ → Contents → Result (Counters × Contents) Refusal
changed_when true wide n c = Err stop_refusal
changed_when false wide n c = Ok (record { number = n + 1; wide = wide }, resized wide c)

abbrev pub change_by : List ℕ → ℕ → Contents → Result (Counters × Contents) Refusal
change_by [] n c = Err empty_refusal
change_by (x ∷ xs) n c = changed_when (byte_of (bytes_at c 0) == 7) (is_wide (x ∷ xs)) n c

abbrev pub counters : Meaning Counters
counters = record {
  number = λ p. p.number;
  tasks = total;
  region_total = total;
  named = λ p. named_by (total p);
  reads = λ p. reads_of;
  writes = λ p. writes_of;
  reply_of = λ p. reply_after;
  left_by = λ p. after_cycle;
  right = λ p. Unit {0};
  fit = λ p r. IsCounter;
  denied = λ p text r. (text ≡ []) × (r ≡ empty_refusal);
  changed = λ p text c result. change_by text p.number c ≡ result;
}

-- ---- what a change holds ready

-- a place for each region, all empty
abbrev pub places_by : Bool → Contents
places_by true = None ∷ None ∷ None ∷ None ∷ []
places_by false = None ∷ None ∷ None ∷ []

-- a carrier: the gate's image for each task but the gate's own
abbrev pub carrier_by : Bool → Bool → Contents
carrier_by wide true = places_by wide
carrier_by true false = None ∷ None ∷ Some (0 ∷ []) ∷ None ∷ []
carrier_by false false = None ∷ None ∷ Some (0 ∷ []) ∷ []
