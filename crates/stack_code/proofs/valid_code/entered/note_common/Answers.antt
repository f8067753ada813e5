use Rattle.stack_code.proofs.valid_code.entered.note_common.Goals as goal

pub returns : goal.returns
returns c = λ q. c.in_ok-insert.ensures.updates.0 q
