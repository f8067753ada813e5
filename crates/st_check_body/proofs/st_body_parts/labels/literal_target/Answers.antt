use Rattle.st_check_body.proofs.st_body_parts.NameLaws.{negative_told}
use Rattle.st_check_body.proofs.st_body_parts.labels.literal_target.Goals as goal

pub returns-in-Negative : goal.returns-in-Negative
returns-in-Negative c = negative_told _ _ _ _ c.in-Negative.is c.as_str-in-Negative.ensures c.negative_target.ensures
