use Rattle.machine_memory.proofs.NumberLaws.{difference_is}
use Rattle.machine_memory.proofs.numbers.difference_of.Goals as goal

pub returns : goal.returns
returns c = difference_is _ _ _ _ c.ranges.a c.ranges.b (record { sfits = c.narrow.type_inv }) c.narrow.ensures.value
