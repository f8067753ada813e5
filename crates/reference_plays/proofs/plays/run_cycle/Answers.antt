use Rattle.std.proofs.Common.{refl, sym, ap, ◌∙◌}
use Rattle.std.proofs.lemmas.Bool.{ltb-true}
use Rattle.std.proofs.lemmas.Option.{slice_get_read}
use Rattle.st_values.specs.View.{program_of}
use Rattle.st_meaning.specs.Cycle.{cycle}
use Rattle.value_trees.specs.Value.{members_of}
use Rattle.reference_plays.proofs.PlayLaws.{ran_by}
use Rattle.reference_plays.proofs.plays.run_cycle.Goals as goal

pub returns : goal.returns
returns c =
    ran_by c.args.plan.now c.args.c.now
    (record { version = c.args.c.now.version; store = c.in_ok-ended.ended.store; held = c.settle.new.held; gone = c.args.c.now.gone }) c.args.task c.in_ok-number.number c.args.name.now c.args.moment c.args.input.now c.in-Some.regions.now.items c.as_slice-regions.result.now (members_of c.replace-store.result) c.in_ok-ended.ended c.in_ok-answer.answer
    (c.requires.footprints c.args.task c.in-Some.regions.now (slice_get_read c.args.plan.now.footprints.now _ c.args.task c.in-Some.regions.now refl (ltb-true _ _ (sym c.in-Some.ensures.lookup.0)) c.in-Some.ensures.lookup.1)) c.in_ok-number.ensures c.as_slice-regions.ensures.value (ap members_of c.replace-store.ensures.value)
    (c.in_ok-ended.ensures ∙ ap (λ k. cycle (program_of c.args.plan.now.on.now.tables.now) c.as_slice-regions.result.now c.in_ok-number.number k c.args.input.now (members_of c.replace-store.result)) c.from-moment.ensures)
    c.in_ok-answer.ensures.answer refl refl c.in_ok-answer.ensures.held refl
