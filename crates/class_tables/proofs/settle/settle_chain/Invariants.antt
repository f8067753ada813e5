use Rattle.std.proofs.Common.{◌-◌}
use Rattle.class_tables.proofs.SettleLaws.{ChainedTo}
use Rattle.class_tables.proofs.settle.settle_chain.Given as goal

abbrev pub invariant-loop-k : goal.invariant-loop-k
invariant-loop-k l = ChainedTo l.rows l.names l.fn.store l.store l.classes.items l.state (l.count - l.k)
