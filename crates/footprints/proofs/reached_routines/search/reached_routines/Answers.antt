use Rattle.std.proofs.Common.{sym, ap, ◌∙◌, subst}
use Rattle.st_tree.specs.declared.program.Program.{Program}
use Rattle.st_values.specs.View.{program_of}
use Rattle.st_meaning.specs.Enter.{programs_of}
use Rattle.footprints.specs.reached_routines.Reached.{IsReached}
use Rattle.footprints.proofs.reached_routines.QueueLaws.{queue_begun, queue_next, queue_ended}
use Rattle.footprints.proofs.reached_routines.AskLaws.{asked_nothing}
use Rattle.footprints.proofs.reached_routines.search.reached_routines.Goals as goal

pub queue-init : goal.queue-init
queue-init c = record {
  queue =
      queue_begun c.args.callables.tables.now c.args.task c.programs_of.result.now c.in_ok-new.field-0.ids.items c.begin.new.found.ids.items c.in_ok-new.ensures
      (c.programs_of.ensures ∙ ap (λ (q : Program). programs_of (program_of q) c.args.task) (sym c.requires.same)) c.in_ok-begin.ensures;
  asked = asked_nothing c.args.callables.tables.now c.new-2.result c.begin.new.found.ids.items c.new-2.ensures.empty;
}

pub returns-in-None : goal.returns-in-None
returns-in-None c =
    subst (λ (q : Program). IsReached q c.args.task c.queue.search.found.ids.items) c.requires.same
    (queue_ended c.args.callables.tables.now c.args.task c.queue.next c.queue.search.found.ids.items (sym c.at.ensures ∙ c.in-None.is) c.queue.invariant.queue)

pub queue-preserved : goal.queue-preserved
queue-preserved c = record {
  queue =
      queue_next c.args.callables.tables.now c.args.task c.queue.next c.in-Some.id c.queue.search.found.ids.items c.visit.new.search.found.ids.items (sym c.at.ensures ∙ c.in-Some.is) c.queue.invariant.queue
      c.in_ok-visit-in-Some.ensures.adds;
  asked = c.in_ok-visit-in-Some.ensures.asked;
}
