use Rattle.st_rules.proofs.SignatureLaws.{same_type_is}
use Rattle.check_calls.proofs.conversions.same_type.Goals as goal

pub returns : goal.returns
returns c = same_type_is c.is_same.result c.args.a.now c.args.b.now c.is_same.ensures
