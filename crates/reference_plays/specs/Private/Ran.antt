-- A cycle that was run.
use Rattle.std.specs.Prelude.{◌≡◌, ℕ, List}
use Rattle.cycle_journal.specs.declared.entry.Answer.{Answer}
use Rattle.st_meaning.specs.Cycle.{cycle}
use Rattle.st_meaning.specs.st_frame.Footprint.{IsFootprint}
use Rattle.st_change.specs.OneThread.{Controller, after_cycle, cycle_answer}

-- the cycle of a task's footprint gives the answer and what is left
pub record HasRun (c : Controller) (t : ℕ) (name : List ℕ) (now : ℕ) (input : List ℕ) (a : Answer) (next : Controller) : Type 0 where
  pub regions : List ℕ
  pub footprint : IsFootprint c.program t regions
  pub answer : a ≡ cycle_answer (cycle c.program regions t now input c.store).0
  pub left : next ≡ after_cycle c name (cycle c.program regions t now input c.store)
