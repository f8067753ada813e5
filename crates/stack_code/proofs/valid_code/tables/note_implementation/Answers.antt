use Rattle.stack_code.proofs.valid_code.tables.note_implementation.Goals as goal

pub returns : goal.returns
returns c = λ q. c.in_ok-insert.ensures.updates.0 q
