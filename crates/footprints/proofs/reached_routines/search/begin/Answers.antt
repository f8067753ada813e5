use Rattle.footprints.proofs.reached_routines.AddLaws.{next}
use Rattle.footprints.proofs.reached_routines.search.begin.Goals as goal

pub programs-preserved : goal.programs-preserved
programs-preserved c =
    next c.args.s.now.callables.tables.now _ c.args.programs.now c.programs.left.now c.in-Some.behind.now c.in-Some.region.now _ c.programs.found.ids.items c.add_program.new.found.ids.items c.in-Some.ensures.cases.0 c.programs.invariant
    c.in_ok-add_program.ensures
