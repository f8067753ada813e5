use Rattle.std.proofs.Common.{refl}
use Rattle.st_check_body.proofs.st_body_parts.EndLaws.{int_end}
use Rattle.st_check_body.proofs.st_body_parts.labels.check_int.Goals as goal

pub returns : goal.returns
returns c = λ s. int_end _ s _ _ _ _ _ _ _ _ c.as_str-text.ensures c.int_type-told.ensures c.int_fault-least.ensures c.in_ok-shown.ensures c.int_target.ensures c.note-own.ensures c.in_ok-copy.ensures refl
