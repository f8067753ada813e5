use Rattle.cycle_journal.proofs.InterleavingLaws.{phases_lem, once_lem, in_order_lem}
use Rattle.cycle_journal.proofs.interleaving.interleaving_laws.Goals as goal

pub returns-clause-phases : goal.returns-clause-phases
returns-clause-phases c = phases_lem

pub returns-clause-once : goal.returns-clause-once
returns-clause-once c = once_lem

pub returns-clause-in_order : goal.returns-clause-in_order
returns-clause-in_order c = in_order_lem
