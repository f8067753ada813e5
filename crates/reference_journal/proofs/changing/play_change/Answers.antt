use Rattle.st_values.specs.View.{program_of}
use Rattle.cycle_journal.specs.declared.play.Play.TheVariants as play
use Rattle.reference_plays.specs.Controller.{controller_of}
use Rattle.reference_journal.specs.Private.Changing.{Changes}
use Rattle.reference_journal.specs.declared.next.Change.TheVariants as change
use Rattle.reference_journal.proofs.ChangeLaws.{changes_to, refused_by_text, refused_so}
use Rattle.reference_journal.proofs.changing.play_change.Goals as goal

pub returns-in_ok-came-in-Ok-clause-step : goal.returns-in_ok-came-in-Ok-clause-step
returns-in_ok-came-in-Ok-clause-step g c = λ sources name source there.
    changes_to g.J.Judge.accepts g.J.Judge.refuses sources (controller_of c.args.plan.now c.args.c.now) name source c.args.text.now there (program_of c.in-Ok.program) c.in_ok-came-in-Ok.came c.in-Ok.ensures.accepted c.in_ok-came-in-Ok.ensures

pub returns-in-Err-Refused-clause-step : goal.returns-in-Err-Refused-clause-step
returns-in-Err-Refused-clause-step g c = λ sources name source there.
    let told : Changes g.J.Judge.accepts g.J.Judge.refuses sources (controller_of c.args.plan.now c.args.c.now) (play.Change name source) (change.Refused c.in-Err-Refused.refusal) =
    refused_by_text g.J.Judge.accepts g.J.Judge.refuses sources (controller_of c.args.plan.now c.args.c.now) name source c.args.text.now there c.in-Err-Refused.refusal
    (refused_so c.in-Err-Refused.field-0 c.in-Err-Refused.refusal (g.J.Judge.refuses c.args.text.now) c.in-Err-Refused.field-0-is c.in-Err-Refused.ensures.refused) in
    rw c.in-Err-Refused.field-0-is told
