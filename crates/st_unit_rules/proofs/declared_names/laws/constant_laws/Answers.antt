use Rattle.st_unit_rules.proofs.declared_names.ConstantLaws.{constant_laws}
use Rattle.st_unit_rules.proofs.declared_names.laws.constant_laws.Goals as goal

pub returns : goal.returns
returns c = constant_laws
