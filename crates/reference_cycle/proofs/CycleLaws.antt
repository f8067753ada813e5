-- A cycle as the code goes.
use Rattle.std.proofs.Common.{◌≡◌, ℕ, ◌-◌, List, Result, Ok, Err, sym, ap, ◌∙◌, subst}
use Rattle.std.specs.Prelude.{IfOk}
use Rattle.plc_text.specs.declared.fault.Fault.{Fault as CodeFault}
use Rattle.plc_text.specs.declared.memory.NoMemory.{NoMemory}
use Rattle.cycle_journal.specs.declared.entry.CycleReply.{CycleReply}
use Rattle.cycle_journal.specs.declared.entry.CycleReply.TheVariants as reply
use Rattle.st_values.specs.Program.{Program}
use Rattle.st_values.specs.Value.{Store}
use Rattle.st_meaning.specs.State.{State, Outcome, Done, Fault}
use Rattle.st_meaning.specs.Enter.{run_task}
use Rattle.st_meaning.specs.Cycle as words
use Rattle.st_meaning.specs.Cycle.{all_ticks, begun, cycle}
use Rattle.st_meaning.specs.ProcessImage.{Located, located_of, latch, collect}
use Rattle.run_state.specs.declared.state.Stop.{Stop}
use Rattle.run_state.specs.declared.state.Stop.TheVariants as stop
use Rattle.run_state.specs.State.{Agrees, Keeps}
use Rattle.reference_cycle.specs.declared.ended.Ended.{Ended}
use Rattle.reference_cycle.specs.Cycle.{ended}

-- the same under another name
pub ended_so : (r : Result Ended NoMemory) (x y : CycleReply × Store) → x ≡ y → IfOk r (λ e. ended e ≡ x) → IfOk r (λ e. ended e ≡ y)
ended_so (Ok e) x y h p = p ∙ h
ended_so (Err e) x y h p = tt

pub stops_with : (x : Stop) (f : CodeFault) (o : Outcome (Unit {0})) (t : State) → x ≡ stop.Fault f → Agrees {A = Unit {0}} (Err x) o t → o ≡ Fault f.kind f.line
stops_with x f o t e h = subst (λ (y : Stop). Agrees {A = Unit {0}} (Err y) o t) e h

pub keeps_with : (x : Stop) (f : CodeFault) (before after : Store) → x ≡ stop.Fault f → Keeps {A = Unit {0}} (Err x) before after → after ≡ before
keeps_with x f before after e h = subst (λ (y : Stop). Keeps {A = Unit {0}} (Err y) before after) e h

module _ (p : Program) (xs : List Located) (fs : List ℕ) (task now : ℕ) (input : List ℕ) (store : Store) (is : xs ≡ located_of p) (s m : State) (first : s ≡ begun store now) (latched : m ≡ record s { store = latch xs fs input s.store }) where
  begins : m ≡ begun (latch (located_of p) fs input store) now
  begins = latched ∙ ap (λ (x : State). record x { store = latch xs fs input x.store }) first ∙ ap (λ ys. begun (latch ys fs input store) now) is

  -- the programs come to their end
  pub comes_to : (end : State) → run_task p task 0 m ≡ Done tt end → (reply.Done (all_ticks - end.ticks) (collect xs fs end.store), end.store) ≡ cycle p fs task now input store
  comes_to end e =
      ap (λ ys. (reply.Done (all_ticks - end.ticks) (collect ys fs end.store), end.store)) is
      ∙ sym (ap (words.ended p fs store) (ap (run_task p task 0) (sym begins) ∙ e))

  -- a program stops at a fault
  pub comes_back : (f : CodeFault) → run_task p task 0 m ≡ Fault f.kind f.line → (reply.Fault f, store) ≡ cycle p fs task now input store
  comes_back f e = sym (ap (words.ended p fs store) (ap (run_task p task 0) (sym begins) ∙ e))
