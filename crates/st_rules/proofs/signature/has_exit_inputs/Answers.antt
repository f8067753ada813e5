use Rattle.std.proofs.Common.{sym}
use Rattle.st_rules.proofs.SignatureLaws.{other_lengths}
use Rattle.st_rules.proofs.signature.has_exit_inputs.Goals as goal

pub returns-then-parameters-ne1 : goal.returns-then-parameters-ne1
returns-then-parameters-ne1 g c = sym (other_lengths g.V.PartialEq.eq c.args.parameters.now _ c.if-parameters-ne1.true)
