use Rattle.st_unit_rules.proofs.refusal_codes.RefusalCodes.{refusal_codes}
use Rattle.st_unit_rules.proofs.refusal_codes.codes.refusal_codes.Goals as goal

pub returns : goal.returns
returns c = refusal_codes
