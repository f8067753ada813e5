use Rattle.st_check_decl.proofs.unit_check.RefusedLaws.{not_e17, refuses}
use Rattle.st_check_decl.proofs.unit_check.refused.denied_by.Goals as goal

pub refusal-requires : goal.refusal-requires
refusal-requires c = not_e17 c.args._decls.now _ _ _ _ c.in-Rule.is c.requires

pub returns-in-Rule : goal.returns-in-Rule
returns-in-Rule c = refuses c.args._decls.now _ _ _ _ c.in-Rule.is c.requires _ c.refusal.ensures
