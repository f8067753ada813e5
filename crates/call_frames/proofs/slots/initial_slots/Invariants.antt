use Rattle.st_values.specs.View.{program_of}
use Rattle.call_frames.proofs.SlotLaws.{SlotsLeft}
use Rattle.call_frames.proofs.slots.initial_slots.Given as goal

abbrev pub invariant-loop-local : goal.invariant-loop-local
invariant-loop-local l = SlotsLeft (program_of l.program) l.locals l.local-index l.slots
