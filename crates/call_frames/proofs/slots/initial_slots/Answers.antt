use Rattle.st_values.specs.View.{program_of}
use Rattle.call_frames.proofs.SlotLaws.{slots_next}
use Rattle.call_frames.proofs.slots.initial_slots.Goals as goal

pub loop-local-preserved : goal.loop-local-preserved
loop-local-preserved c =
    slots_next (program_of c.args.program.now) c.args.locals.now c.loop-local.local-index c.local-item.result c.loop-local.slots c.push.new.self c.in_ok-slot.slot c.loop-local-test.true c.local-item.is c.loop-local.invariant c.in_ok-slot.ensures c.in_ok-push.ensures.ok
