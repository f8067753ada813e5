-- What a first load comes to.
use Rattle.std.specs.Prelude.{◌≡◌, ℕ, List, Option, Some, None}
use Rattle.plc_text.specs.declared.fault.FaultKind.{FaultKind}
use Rattle.plc_text.specs.declared.refusal.Refusal.{Refusal}
use Rattle.st_values.specs.Program.{Program}
use Rattle.st_values.specs.Value.{Store}
use Rattle.st_change.specs.Hook.{ran, stopped}
use Rattle.st_change.specs.Change.{start}
use Rattle.st_change.specs.OneThread.{hook_refusal}

-- the first load ends
pub record Starts (p : Program) : Type 0 where
  pub store : Store
  pub ticks : ℕ
  pub started : start p ≡ ran store ticks

-- a hook of the first load stops at a fault, and the refusal is the one for it
pub record HookRefuses (p : Program) (r : Refusal) : Type 0 where
  pub class : List ℕ
  pub kind : FaultKind
  pub line : ℕ
  pub stops : start p ≡ stopped class kind line
  pub refusal : r ≡ hook_refusal class kind line

abbrev pub Loads : Program → Option Refusal → Type 0
Loads p None = Starts p
Loads p (Some r) = HookRefuses p r

-- The text is refused, or a hook of the first load of the program as which it is accepted.
module _ (Accepts : List ℕ → Program → Type 0) (Refuses : List ℕ → Refusal → Type 0) where
  pub data FirstRefused (text : List ℕ) (r : Refusal) : Type 0 where
    by_text : Refuses text r → FirstRefused text r
    by_hook : (p : Program) → Accepts text p → HookRefuses p r → FirstRefused text r
