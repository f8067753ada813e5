use Rattle.std.proofs.Common.{sym}
use Rattle.value_trees.specs.Value.{value_of}
use Rattle.run_state.proofs.Stores.{local_put, no_slot, no_frame}
use Rattle.run_state.proofs.writes.put_local.Goals as goal

pub returns-in-Some-get_mut : goal.returns-in-Some-get_mut
returns-in-Some-get_mut c =
    local_put c.put_in_slot.result c.args.frames.now c.args.depth c.args.local c.args.steps.now (value_of c.args.new) c.in-Some.frame.now c.in-Some-get_mut.slot.now c.put_in_slot.new.slot (sym c.in-Some.ensures.item) (sym c.in-Some-get_mut.ensures.item) c.put_in_slot.ensures

pub returns-in-None-get_mut : goal.returns-in-None-get_mut
returns-in-None-get_mut c = no_slot c.args.frames.now c.args.depth c.args.local c.args.steps.now (value_of c.args.new) c.in-Some.frame.now (sym c.in-Some.ensures.item) (sym c.in-None-get_mut.ensures.item)

pub returns-in-None : goal.returns-in-None
returns-in-None c = no_frame c.args.frames.now c.args.depth c.args.local c.args.steps.now (value_of c.args.new) (sym c.in-None.ensures.item)
