use Rattle.std.proofs.Common.{drop}
use Rattle.st_values.specs.View.{program_of}
use Rattle.body_uses.specs.Uses.{uses_of}
use Rattle.footprints.specs.reached_routines.Private.Adds.{Takes, EntersBy}
use Rattle.footprints.specs.reached_routines.Private.Asked.{AreAsked}
use Rattle.footprints.proofs.reached_routines.search.follow_all.Given as goal

abbrev pub invariant-loop-one : goal.invariant-loop-one
invariant-loop-one l = record {
  taken : Takes l.s.callables.tables.now (EntersBy (program_of l.s.callables.tables.now)) (uses_of l.uses) (uses_of (drop l.one-index l.uses)) l.fn.search.found.ids.items l.search.found.ids.items;
  asked : AreAsked l.s.callables.tables.now l.search.asked l.search.found.ids.items;
}
