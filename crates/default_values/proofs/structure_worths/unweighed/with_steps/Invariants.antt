use Rattle.default_values.specs.structure_worths.Private.Counted.{Counts}
use Rattle.default_values.proofs.structure_worths.unweighed.with_steps.Given as goal

abbrev pub invariant-loop-structure : goal.invariant-loop-structure
invariant-loop-structure l = Counts l.counts.structures.items l.yielded l.list.items
