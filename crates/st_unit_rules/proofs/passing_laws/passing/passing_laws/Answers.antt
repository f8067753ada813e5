use Rattle.st_unit_rules.proofs.passing_laws.AllLaws.{laws}
use Rattle.st_unit_rules.proofs.passing_laws.passing.passing_laws.Goals as goal

pub returns : goal.returns
returns c = laws
