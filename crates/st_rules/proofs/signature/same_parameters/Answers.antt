use Rattle.std.proofs.Common.{sym}
use Rattle.st_rules.proofs.SignatureLaws.{other_lengths}
use Rattle.st_rules.proofs.signature.same_parameters.Goals as goal

pub returns-then-a-b : goal.returns-then-a-b
returns-then-a-b g c = sym (other_lengths g.V.PartialEq.eq c.args.a.now c.args.b.now c.if-a-b.true)
