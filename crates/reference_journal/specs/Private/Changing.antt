-- What a change is answered, and what it leaves.
use Rattle.std.specs.Prelude.{ℕ, List}
use Rattle.plc_text.specs.declared.refusal.Refusal.{Refusal}
use Rattle.cycle_journal.specs.declared.entry.Answer.TheVariants as answer
use Rattle.cycle_journal.specs.declared.play.Play.{Play}
use Rattle.st_values.specs.Program.{Program}
use Rattle.st_values.specs.View.{program_of}
use Rattle.st_change.specs.OneThread.{Controller, One}
use Rattle.region_instances.specs.Instances.{RegionsUnfold}
use Rattle.reference_journal.specs.Private.Versions.{state_of}
use Rattle.reference_journal.specs.declared.next.Change.{Change}
use Rattle.reference_journal.specs.declared.next.Change.TheVariants as change

-- What texts are accepted, as which program, and with what they are refused; the texts of the sources.
module _ (Accepts : List ℕ → Program → Type 0) (Refuses : List ℕ → Refusal → Type 0) (sources : List (List ℕ)) where
  -- the step of a play
  abbrev pub Changes : Controller → Play → Change → Type 0
  Changes c p (change.Loaded next) = One Accepts Refuses sources c p (answer.Loaded next.state.version) (state_of next.program next.state)
  Changes c p (change.Refused r) = One Accepts Refuses sources c p (answer.Refused r) c

-- the types of the regions of a program that is loaded unfold
abbrev pub NextUnfolds : Change → Type 0
NextUnfolds (change.Loaded next) = RegionsUnfold (program_of next.program)
NextUnfolds (change.Refused r) = Unit {0}
