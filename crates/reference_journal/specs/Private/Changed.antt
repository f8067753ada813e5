-- What a change to a program came to.
use Rattle.std.specs.Prelude.{◌≡◌, ℕ, List}
use Rattle.plc_text.specs.declared.fault.FaultKind.{FaultKind}
use Rattle.plc_text.specs.declared.refusal.Refusal.{Refusal}
use Rattle.st_values.specs.Program.{Program}
use Rattle.st_values.specs.Value.{Store}
use Rattle.st_values.specs.View.{program_of}
use Rattle.st_change.specs.Hook.{ran, stopped}
use Rattle.st_change.specs.Change as words
use Rattle.st_change.specs.OneThread.{Controller, loaded, hook_refusal}
use Rattle.reference_journal.specs.Private.Versions.{state_of}
use Rattle.reference_journal.specs.declared.next.Change.{Change}
use Rattle.reference_journal.specs.declared.next.Change.TheVariants as change
use Rattle.reference_journal.specs.declared.next.Version.{Version}

-- a state is the one behind a change that leaves this store
abbrev pub IsLoadedAs : Controller → Program → Store → Controller → Type 0
IsLoadedAs c p s next = next ≡ loaded c p s

-- the change ran, and the program is loaded
pub record HasLoaded (c : Controller) (p : Program) (next : Version) : Type 0 where
  pub program : program_of next.program ≡ p
  pub store : Store
  pub ticks : ℕ
  pub came : words.change c.program p c.store ≡ ran store ticks
  pub state : state_of next.program next.state ≡ loaded c p store

-- a hook stopped at a fault, and the refusal is the one for it
pub record HasStopped (c : Controller) (p : Program) (r : Refusal) : Type 0 where
  pub class : List ℕ
  pub kind : FaultKind
  pub line : ℕ
  pub came : words.change c.program p c.store ≡ stopped class kind line
  pub refusal : r ≡ hook_refusal class kind line

abbrev pub ChangedTo : Controller → Program → Change → Type 0
ChangedTo c p (change.Loaded next) = HasLoaded c p next
ChangedTo c p (change.Refused r) = HasStopped c p r
