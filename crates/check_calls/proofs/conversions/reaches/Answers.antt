use Rattle.st_rules.specs.Kinds.{reaches}
use Rattle.st_rules.proofs.KindLaws.{reaches_decides}
use Rattle.st_rules.proofs.Booleans.{same-tests}
use Rattle.check_calls.proofs.conversions.reaches.Goals as goal

pub returns : goal.returns
returns c = same-tests c.reaches.result (reaches c.args.from c.args.to) (λ t. (reaches_decides c.args.from c.args.to).1 (c.reaches.ensures.0 t)) (λ t. c.reaches.ensures.1 ((reaches_decides c.args.from c.args.to).0 t))
