use Rattle.st_rules.proofs.KindLaws.{common_only, common_is}
use Rattle.st_operators.proofs.kinds.common_kind.Goals as goal

pub returns : goal.returns
returns c = common_only c.args.a c.args.b c.widen.result _ c.widen.ensures (common_is c.args.a c.args.b)
