use Rattle.check_routines.proofs.function_rules.PartLaws.{serves_all}
use Rattle.check_routines.proofs.function_rules.parts.parts_of.Goals as goal

pub returns-clause-serves : goal.returns-clause-serves
returns-clause-serves c = serves_all _ _ c.names.ensures.names c.classes.ensures c.sizes.ensures
