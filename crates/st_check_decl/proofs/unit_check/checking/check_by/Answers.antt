use Rattle.st_check_decl.proofs.unit_check.checking.check_by.Goals as goal

pub returns-in-Ok-clause-ok : goal.returns-in-Ok-clause-ok
returns-in-Ok-clause-ok c = c.finish.ensures.ok
