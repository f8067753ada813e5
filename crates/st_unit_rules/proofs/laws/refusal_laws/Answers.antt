use Rattle.st_unit_rules.proofs.RefusalLaws.{refusal_laws}
use Rattle.st_unit_rules.proofs.laws.refusal_laws.Goals as goal

pub returns : goal.returns
returns c = refusal_laws
