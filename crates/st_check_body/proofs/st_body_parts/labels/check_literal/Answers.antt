use Rattle.std.proofs.Common.{refl}
use Rattle.st_check_body.proofs.st_body_parts.EndLaws.{literal_end}
use Rattle.st_check_body.proofs.st_body_parts.labels.check_literal.Goals as goal

pub returns : goal.returns
returns c = λ s asked. literal_end _ s asked _ _ _ _ _ _ _ c.literal_type-told.ensures c.literal_fault-least.ensures c.in_ok-shown.ensures c.literal_target.ensures c.note-own.ensures c.in_ok-copy.ensures refl
