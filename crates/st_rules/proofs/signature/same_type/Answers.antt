use Rattle.st_rules.proofs.SignatureLaws.{same_type_is}
use Rattle.st_rules.proofs.signature.same_type.Goals as goal

pub returns-in-Some-Some : goal.returns-in-Some-Some
returns-in-Some-Some c = rw (c.in-Some-Some.is-0, c.in-Some-Some.is-1) (same_type_is c.is_same.result c.in-Some-Some.a c.in-Some-Some.b c.is_same.ensures)
