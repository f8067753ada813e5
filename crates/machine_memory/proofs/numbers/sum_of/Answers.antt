use Rattle.machine_memory.proofs.NumberLaws.{sum_is}
use Rattle.machine_memory.proofs.numbers.sum_of.Goals as goal

pub returns : goal.returns
returns c = sum_is _ _ _ _ c.ranges.a c.ranges.b (record { sfits = c.narrow.type_inv }) c.narrow.ensures.value
