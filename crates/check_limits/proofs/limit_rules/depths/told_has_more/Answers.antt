use Rattle.std.proofs.Common.{◌∙◌, sym, ap}
use Rattle.check_limits.specs.limit_rules.Private.Depths.{has_more}
use Rattle.check_limits.proofs.limit_rules.DepthLaws.{none_more}
use Rattle.check_limits.proofs.limit_rules.depths.told_has_more.Goals as goal

pub returns-in-Some : goal.returns-in-Some
returns-in-Some c = λ s m. c.has_more.ensures s m ∙ ap (has_more c.args.within s) (sym c.in-Some.is)

pub returns-in-None : goal.returns-in-None
returns-in-None c = λ s m. none_more c.args.within s ∙ ap (has_more c.args.within s) (sym c.in-None.is)
