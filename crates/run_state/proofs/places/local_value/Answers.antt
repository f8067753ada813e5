use Rattle.std.proofs.Common.{sym, ◌∙◌}
use Rattle.run_state.proofs.Stack.{local_is, no_local}
use Rattle.run_state.proofs.places.local_value.Goals as goal

pub returns-in-Some-get : goal.returns-in-Some-get
returns-in-Some-get c = c.held_in.ensures ∙ sym (local_is c.args.m.now.frames c.args.depth c.args.local c.in-Some.frame.now _ (sym c.in-Some.ensures.value) (sym c.in-Some-get.ensures.value))

pub returns-in-None-get : goal.returns-in-None-get
returns-in-None-get c = sym (local_is c.args.m.now.frames c.args.depth c.args.local c.in-Some.frame.now _ (sym c.in-Some.ensures.value) (sym c.in-None-get.ensures.value))

pub returns-in-None : goal.returns-in-None
returns-in-None c = sym (no_local c.args.m.now.frames c.args.depth c.args.local (sym c.in-None.ensures.value))
