use Rattle.std.proofs.Common.{take}
use Rattle.std.specs.Prelude.{true}
use Rattle.st_rules.specs.Scope.{field_list}
use Rattle.name_resolution.specs.Private.Places.{AreTables}
use Rattle.name_resolution.proofs.tables.fields_of.Given as goal

abbrev pub invariant-loop-part : goal.invariant-loop-part
invariant-loop-part l = AreTables (λ f. f.name) (λ f. true) field_list l.tables.items (take l.part-index l.parts)
