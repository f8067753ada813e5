use Rattle.std.proofs.Common.{take}
use Rattle.std.specs.Prelude.{true}
use Rattle.st_rules.specs.Scope.{value_names}
use Rattle.name_resolution.specs.Private.Places.{AreTables}
use Rattle.name_resolution.proofs.tables.values_of.Given as goal

abbrev pub invariant-loop-part : goal.invariant-loop-part
invariant-loop-part l = AreTables (λ n. n) (λ n. true) value_names l.tables.items (take l.part-index l.parts)
