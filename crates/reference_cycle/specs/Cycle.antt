-- How a cycle ended, as the meaning says it.
use Rattle.cycle_journal.specs.declared.entry.CycleReply.{CycleReply}
use Rattle.st_values.specs.Value.{Store}
use Rattle.value_trees.specs.Value.{members_of}
use Rattle.reference_cycle.specs.declared.ended.Ended.{Ended}

abbrev pub ended : Ended → CycleReply × Store
ended e = (e.reply, members_of e.store)
