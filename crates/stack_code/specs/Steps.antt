-- What an instruction comes to: it goes on with something, or the run stops.
use Rattle.std.specs.Prelude.{ℕ, Option, Some, None, Bool, if◌then◌else◌}
use Rattle.plc_text.specs.declared.fault.FaultKind.{FaultKind}
use Rattle.stack_code.specs.declared.machine.Outcome.TheVariants as outcome
use Rattle.stack_code.specs.declared.machine.Ending.{Ending}
use Rattle.stack_code.specs.declared.machine.Ending.TheVariants.{Ended, Stuck, Broken}

pub data Step (A : Type 0) : Type 0 where
  Goes : A → Step A
  Stops : Ending → Step A

infixl 10 ◌>>=◌
abbrev pub ◌>>=◌ : {A B : Type 0} → Step A → (A → Step B) → Step B
◌>>=◌ (Goes a) f = f a
◌>>=◌ (Stops e) f = Stops e

abbrev pub fault_at : FaultKind → ℕ → Ending
fault_at k l = Ended (outcome.Fault (record { kind = k; line = l }))

abbrev pub faults : {A : Type 0} → FaultKind → ℕ → Step A
faults k l = Stops (fault_at k l)

abbrev pub stuck : {A : Type 0} → Step A
stuck = Stops Stuck

abbrev pub broken : {A : Type 0} → Step A
broken = Stops Broken

-- what is there, or the run is stuck
abbrev pub some_or_stuck : {A : Type 0} → Option A → Step A
some_or_stuck None = stuck
some_or_stuck (Some a) = Goes a

-- what is there, or the code is at fault
abbrev pub some_or_broken : {A : Type 0} → Option A → Step A
some_or_broken None = broken
some_or_broken (Some a) = Goes a

-- where a test holds, or the run is stuck
abbrev pub asks : {A : Type 0} → Bool → A → Step A
asks test a = if test then Goes a else stuck
