use Rattle.std.proofs.Common.{refl}
use Rattle.st_check_body.proofs.st_body_parts.EndLaws.{negative_end}
use Rattle.st_check_body.proofs.st_body_parts.labels.check_negative.Goals as goal

pub returns : goal.returns
returns c = λ s. negative_end _ s _ _ _ _ _ _ _ _ c.as_str-text.ensures c.negative_type-told.ensures c.negative_fault-least.ensures c.in_ok-shown.ensures c.negative_target.ensures c.note-own.ensures c.in_ok-copy.ensures refl
