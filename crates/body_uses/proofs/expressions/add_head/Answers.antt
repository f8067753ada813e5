use Rattle.body_uses.proofs.UseLaws.{head_goes}
use Rattle.body_uses.proofs.expressions.add_head.Goals as goal

pub returns : goal.returns
returns c = head_goes c.args.place.now c.as_slice.result.now _ _ _ _ c.as_slice.ensures c.in_ok-add_call.ensures c.in_ok-add_changed.ensures
