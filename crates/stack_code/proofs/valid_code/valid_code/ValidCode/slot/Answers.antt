use Rattle.std.proofs.Common.{◌≡◌, sym, ap, subst, ◌∙◌}
use Rattle.stack_code.specs.Steps.{some_or_stuck}
use Rattle.stack_code.specs.Machine.{in_slot}
use Rattle.stack_code.proofs.valid_code.MayLaws.{slot_is}
use Rattle.stack_code.proofs.valid_code.valid_code.ValidCode.slot.Goals as goal

pub returns : goal.returns
returns c =
    subst (λ code. some_or_stuck c.in_slot.result ≡ in_slot code c.args.class c.args.slot) c.self.view_is
    (ap some_or_stuck (sym c.in_slot.ensures) ∙ sym (slot_is c.self.inside.code c.args.class c.args.slot))
