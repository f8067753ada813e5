use Rattle.st_rules.proofs.SignatureLaws.{no_parameters}
use Rattle.st_rules.proofs.signature.has_no_inputs.Goals as goal

pub returns : goal.returns
returns g c = no_parameters g.V.PartialEq.eq c.is_empty.result c.args.parameters.now c.is_empty.ensures
