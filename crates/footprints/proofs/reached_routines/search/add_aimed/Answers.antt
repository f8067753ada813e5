use Rattle.std.proofs.Common.{Option, subst}
use Rattle.st_values.specs.Program.{Routine}
use Rattle.footprints.specs.reached_routines.Private.Adds.{Adds, Is}
use Rattle.footprints.proofs.reached_routines.AddLaws.{next}
use Rattle.footprints.proofs.reached_routines.search.add_aimed.Goals as goal

pub classes-preserved : goal.classes-preserved
classes-preserved c =
    next c.args.tables.now _ c.args.classes.now c.classes.left.now c.in-Some.behind.now c.in-Some.class.now _ c.classes.found.ids.items c.add_some.new.found.ids.items c.in-Some.ensures.cases.0 c.classes.invariant
    (subst (λ (o : Option Routine). Adds c.args.tables.now (Is o) c.classes.found.ids.items c.add_some.new.found.ids.items) c.aimed.ensures c.in_ok-add_some.ensures)
