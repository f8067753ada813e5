use Rattle.std.proofs.Common.{◌∙◌, ◌+◌, ap, get_or, length, refl, subst, ◌<◌, ℕ}
use Rattle.std.specs.Map.{values_of}
use Rattle.reference_plays.specs.Controller.{controller_of}
use Rattle.reference_journal.proofs.RunLaws.{one_entered, play_on}
use Rattle.reference_journal.proofs.playing.play_next.Goals as goal

pub returns-clause-run : goal.returns-clause-run
returns-clause-run g c =
    play_on g.J.Judge.accepts g.J.Judge.refuses (values_of c.args.sources.now) c.args.plays.now (controller_of c.args.plan.now c.args.c.now) (controller_of c.args.plan.now c.play_one.new.c) c.args.entries.now c.push_entry.new.entries
    c.args.c.now.version c.in_ok-number.number c.in_ok-step.step c.in_ok-next.next c.index-plays-place.result c.requires.left
    (c.index-plays-place.is ∙ ap (λ k. get_or c.args.plays.now k c.index-plays-place.result) c.len-place.ensures) (c.in_ok-number.ensures ∙ ap (λ k. k + 1) c.len-place.ensures) refl c.in_ok-step.ensures.step c.in_ok-next.ensures

pub returns-clause-one_more : goal.returns-clause-one_more
returns-clause-one_more g c =
    one_entered g.J.Judge.accepts g.J.Judge.refuses (values_of c.args.sources.now) c.args.plays.now c.args.entries.now c.push_entry.new.entries c.args.c.now.version c.in_ok-number.number c.in_ok-step.step c.in_ok-next.next c.in_ok-next.ensures
