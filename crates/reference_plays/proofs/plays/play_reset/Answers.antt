use Rattle.std.proofs.Common.{map, ap, ◌∙◌}
use Rattle.st_change.specs.OneThread.{Controller, since}
use Rattle.reference_plays.specs.Controller.{controller_of, gone_of}
use Rattle.reference_plays.proofs.PlayLaws.{no_reset, reset_task}
use Rattle.reference_plays.proofs.plays.play_reset.Goals as goal

pub returns-in-None : goal.returns-in-None
returns-in-None g c = λ sources.
    no_reset g.J.Judge.accepts g.J.Judge.refuses sources (controller_of c.args.plan.now c.args.c.now) c.args.name.now c.since.result c.in-None.ensures
    (c.since.ensures ∙ ap (λ gs. since (map gone_of gs) c.args.name.now) c.deref.ensures.value)

pub returns-in_ok-release-in-Some : goal.returns-in_ok-release-in-Some
returns-in_ok-release-in-Some g c = λ sources.
    reset_task g.J.Judge.accepts g.J.Judge.refuses sources (controller_of c.args.plan.now c.args.c.now) c.args.name.now c.in-Some.field-0 _ c.in-Some.ensures
    (ap (λ ns. let k : Controller = record (controller_of c.args.plan.now c.args.c.now) { held = ns } in k) c.in_ok-release-in-Some.ensures)
