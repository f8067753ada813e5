use Rattle.std.proofs.Common.{map, sym, ap, ◌∙◌}
use Rattle.st_change.specs.OneThread.{is_held, since}
use Rattle.reference_plays.specs.Controller.{controller_of, gone_of}
use Rattle.reference_plays.proofs.PlayLaws.{no_cycle, held_cycle, run_cycle}
use Rattle.reference_plays.proofs.plays.play_cycle.Goals as goal

pub returns-in-None : goal.returns-in-None
returns-in-None g c = λ sources.
    no_cycle g.J.Judge.accepts g.J.Judge.refuses sources (controller_of c.args.plan.now c.args.c.now) c.args.name.now c.args.moment c.args.input.now c.since.result c.in-None.ensures
    (c.since.ensures ∙ ap (λ gs. since (map gone_of gs) c.args.name.now) c.deref-in-None.ensures.value)

pub returns-then-is_held : goal.returns-then-is_held
returns-then-is_held g c = λ sources.
    held_cycle g.J.Judge.accepts g.J.Judge.refuses sources (controller_of c.args.plan.now c.args.c.now) c.args.name.now c.args.moment c.args.input.now c.in-Some.task c.in-Some.ensures
    (sym c.if-is_held.true ∙ c.is_held.ensures ∙ ap (λ ns. is_held ns c.args.name.now) c.deref.ensures.value)

pub returns-in_ok-answer-in-Some : goal.returns-in_ok-answer-in-Some
returns-in_ok-answer-in-Some g c = λ sources.
    run_cycle g.J.Judge.accepts g.J.Judge.refuses sources (controller_of c.args.plan.now c.args.c.now) c.args.name.now c.args.moment c.args.input.now c.in-Some.task c.in_ok-answer-in-Some.answer _ c.in-Some.ensures
    (sym c.if-is_held.false ∙ c.is_held.ensures ∙ ap (λ ns. is_held ns c.args.name.now) c.deref.ensures.value) c.in_ok-answer-in-Some.ensures
