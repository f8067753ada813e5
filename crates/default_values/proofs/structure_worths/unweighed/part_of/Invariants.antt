use Rattle.std.proofs.Common.{◌≡◌, map, take}
use Rattle.std.specs.Prelude.{flat_map}
use Rattle.default_values.specs.structure_worths.Private.Counted.{kinds_of_group}
use Rattle.default_values.proofs.structure_worths.unweighed.part_of.Given as goal

abbrev pub invariant-loop-group : goal.invariant-loop-group
invariant-loop-group l = map (λ f. f.kind) l.list ≡ flat_map kinds_of_group (take l.group-index l.groups)
