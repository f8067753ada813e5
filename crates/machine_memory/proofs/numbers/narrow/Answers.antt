use Rattle.machine_memory.proofs.NumberLaws.{same_value, value_fits}
use Rattle.machine_memory.proofs.numbers.narrow.Goals as goal

pub returns-clause-value : goal.returns-clause-value
returns-clause-value c = same_value c.args.e c.args.v _ c.ranges.v (record { sfits = c.turned.type_inv }) c.turned.ensures

pub returns-clause-fits : goal.returns-clause-fits
returns-clause-fits c = value_fits c.args.e c.args.v _ (same_value c.args.e c.args.v _ c.ranges.v (record { sfits = c.turned.type_inv }) c.turned.ensures)
