-- A fault of the code is the fault of the run.
use Rattle.std.proofs.Common.{◌≡◌, ℕ, Err, sym, subst}
use Rattle.plc_text.specs.declared.fault.FaultKind.{FaultKind}
use Rattle.st_meaning.specs.State.{State, Outcome, Fault}
use Rattle.run_state.specs.declared.state.Stop.{Stop}
use Rattle.run_state.specs.declared.state.Stop.TheVariants as stop
use Rattle.run_state.specs.State.{Shows}

pub faulted : {A C : Type 0} (view : C → A) (e : Stop) (k : FaultKind) (line : ℕ) (o : Outcome A) (s : State) → e ≡ stop.Fault (record { kind = k; line = line }) → o ≡ Fault k line → Shows view (Err e) o s
faulted view e k line o s h g = subst (λ x. Shows view (Err x) o s) (sym h) g
