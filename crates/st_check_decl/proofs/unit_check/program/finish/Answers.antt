use Rattle.st_check_decl.proofs.unit_check.ConfiguredLaws.{is_first, is_none}
use Rattle.st_check_decl.proofs.unit_check.ProgramLaws.{checked, none_configured, tasks_fit, unit_good}
use Rattle.st_check_decl.proofs.unit_check.program.finish.Goals as goal

pub typed_tasks-requires : goal.typed_tasks-requires
typed_tasks-requires c = tasks_fit c.args.decls.now c.in-Some.configuration.now.now _ c.requires.good (is_first c.args.decls.now _ _ c.in_ok-list.ensures c.deref.ensures.value _ _ c.in-Some.ensures.cases.0) c.as_slice.ensures

pub returns-in_default-clause-err : goal.returns-in_default-clause-err
returns-in_default-clause-err c = none_configured c.args.decls.now _ c.requires.good (is_none c.args.decls.now _ _ c.in_ok-list.ensures c.deref.ensures.value c.in_default.ensures.cases) c.no_configuration.ensures

pub returns-clause-ok : goal.returns-clause-ok
returns-clause-ok c =
    (unit_good c.args.decls.now c.in-Some.configuration.now.now c.requires.good (is_first c.args.decls.now _ _ c.in_ok-list.ensures c.deref.ensures.value _ _ c.in-Some.ensures.cases.0), checked c.args.decls.now _ c.in-Some.configuration.now.now _ _ _ c.requires.reached (is_first c.args.decls.now _ _ c.in_ok-list.ensures c.deref.ensures.value _ _ c.in-Some.ensures.cases.0) c.as_slice.ensures c.in_ok-tasks.ensures c.program_of.ensures)
