use Rattle.std.proofs.Common.{◌≡◌, Some, map, take}
use Rattle.default_values.specs.worth_steps.Steps.{kinds_in}
use Rattle.default_values.specs.structure_worths.Private.Counted.{kinds_of}
use Rattle.default_values.proofs.structure_worths.unweighed.parts_of.Given as goal

abbrev pub invariant-loop-structure : goal.invariant-loop-structure
invariant-loop-structure l = map (λ p. kinds_in (Some p)) l.list.items ≡ map kinds_of (take l.structure-index l.structures)
