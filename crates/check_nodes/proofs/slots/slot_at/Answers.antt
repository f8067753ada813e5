use Rattle.std.proofs.Common.{sym, ap, ◌∙◌}
use Rattle.check_nodes.specs.Slots.{slotted}
use Rattle.check_nodes.proofs.SlotLaws.{slot_there, at_place}
use Rattle.check_nodes.proofs.slots.slot_at.Goals as goal

pub returns-in-Some-slot : goal.returns-in-Some-slot
returns-in-Some-slot c = sym (slot_there c.args.list.now c.args.number ∙ ap at_place c.in-Some.ensures ∙ ap slotted c.in-Some-slot.is)

pub returns-in-None-slot : goal.returns-in-None-slot
returns-in-None-slot c = sym (slot_there c.args.list.now c.args.number ∙ ap at_place c.in-Some.ensures ∙ ap slotted c.in-None-slot.is)

pub returns-in-None : goal.returns-in-None
returns-in-None c = sym (slot_there c.args.list.now c.args.number ∙ ap at_place c.in-None.ensures)
