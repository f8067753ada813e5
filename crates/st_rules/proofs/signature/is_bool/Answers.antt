use Rattle.st_rules.proofs.SignatureLaws.{same_type_is}
use Rattle.st_rules.proofs.signature.is_bool.Goals as goal

pub returns-in-Some : goal.returns-in-Some
returns-in-Some c = rw c.in-Some.is (same_type_is _ _ _ c.is_same.ensures)
