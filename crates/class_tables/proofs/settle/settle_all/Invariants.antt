use Rattle.std.proofs.Common.{◌≡◌, length}
use Rattle.class_tables.specs.Private.Settle.{AreAllSettled, IsWork}
use Rattle.class_tables.proofs.settle.settle_all.Given as goal

abbrev pub invariant-loop-first : goal.invariant-loop-first
invariant-loop-first l = IsWork l.rows l.names l.work.store l.work.held.items l.work.states.items

abbrev pub invariant-loop-class : goal.invariant-loop-class
invariant-loop-class l = record {
  work : IsWork l.rows l.names l.work.store l.work.held.items l.work.states.items;
  settled : AreAllSettled l.rows l.names l.work.store l.states.items;
  count : length l.states.items ≡ l.class;
}
