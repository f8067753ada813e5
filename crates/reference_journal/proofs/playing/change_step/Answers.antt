use Rattle.std.specs.Map.{values_of}
use Rattle.reference_plays.specs.Controller.{controller_of}
use Rattle.reference_journal.proofs.ChangeLaws.{without_memory, step_refused, step_loaded}
use Rattle.reference_journal.proofs.playing.change_step.Goals as goal

pub returns-then-source-len-clause-step : goal.returns-then-source-len-clause-step
returns-then-source-len-clause-step g c =
    without_memory g.J.Judge.accepts g.J.Judge.refuses (values_of c.args.sources.now) (controller_of c.args.plan.now c.args.c.now) c.args.play.now c.args.source c.requires.change

pub returns-in-Ok-Loaded-clause-step : goal.returns-in-Ok-Loaded-clause-step
returns-in-Ok-Loaded-clause-step g c =
    step_loaded g.J.Judge.accepts g.J.Judge.refuses (values_of c.args.sources.now) (controller_of c.args.plan.now c.args.c.now) c.args.play.now c.args.source c.requires.change c.in-Ok-Loaded.next c.in-Ok-Loaded.field-0 c.in-Ok-Loaded.field-0-is
    (c.in-Ok-Loaded.ensures.step (values_of c.args.sources.now) c.requires.change.name c.args.source c.at.ensures)

pub returns-in-Ok-Refused-clause-step : goal.returns-in-Ok-Refused-clause-step
returns-in-Ok-Refused-clause-step g c =
    step_refused g.J.Judge.accepts g.J.Judge.refuses (values_of c.args.sources.now) (controller_of c.args.plan.now c.args.c.now) c.args.play.now c.args.source c.requires.change c.in-Ok-Refused.refusal c.in-Ok-Refused.field-0 c.in-Ok-Refused.field-0-is
    (c.in-Ok-Refused.ensures.step (values_of c.args.sources.now) c.requires.change.name c.args.source c.at.ensures)

pub returns-in-Err-clause-step : goal.returns-in-Err-clause-step
returns-in-Err-clause-step g c =
    without_memory g.J.Judge.accepts g.J.Judge.refuses (values_of c.args.sources.now) (controller_of c.args.plan.now c.args.c.now) c.args.play.now c.args.source c.requires.change
