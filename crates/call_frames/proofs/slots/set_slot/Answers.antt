use Rattle.std.proofs.Common.{sym, ap, ◌∙◌}
use Rattle.std.specs.Prelude.{map}
use Rattle.std.proofs.lemmas.List.{map-set}
use Rattle.run_state.specs.State.{slot_of}
use Rattle.call_frames.proofs.SlotLaws.{past_end}
use Rattle.call_frames.proofs.slots.set_slot.Goals as goal

pub returns-in-Some : goal.returns-in-Some
returns-in-Some c = map-set slot_of c.args.slots.now c.args.n c.args.slot

pub returns-in-None : goal.returns-in-None
returns-in-None c = ap (map slot_of) (sym (past_end c.args.slots.now c.args.n c.args.slot c.in-None.ensures.item)) ∙ map-set slot_of c.args.slots.now c.args.n c.args.slot
