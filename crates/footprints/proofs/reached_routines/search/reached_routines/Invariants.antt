use Rattle.footprints.specs.reached_routines.Private.Adds.{Queue}
use Rattle.footprints.specs.reached_routines.Private.Asked.{AreAsked}
use Rattle.footprints.proofs.reached_routines.search.reached_routines.Given as goal

abbrev pub invariant-queue : goal.invariant-queue
invariant-queue l = record {
  queue : Queue l.callables.tables.now l.task l.next l.search.found.ids.items;
  asked : AreAsked l.callables.tables.now l.search.asked l.search.found.ids.items;
}
