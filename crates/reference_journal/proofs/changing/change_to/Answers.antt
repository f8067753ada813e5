use Rattle.st_values.specs.View.{program_of}
use Rattle.reference_plays.specs.Controller.{controller_of}
use Rattle.reference_journal.proofs.ChangeLaws.{has_stopped}
use Rattle.reference_journal.proofs.changing.change_to.Goals as goal

pub returns-in-Stopped : goal.returns-in-Stopped
returns-in-Stopped c =
    has_stopped (controller_of c.args.plan.now c.args.c.now) (program_of c.args.program) c.in_ok-store.field-0 c.in_ok-store.ensures c.in-Stopped.stopped c.refusal_of.result c.in-Stopped.is c.refusal_of.ensures
