use Rattle.std.proofs.Common.{take}
use Rattle.std.specs.Prelude.{true}
use Rattle.st_rules.specs.Scope.{value_names}
use Rattle.name_resolution.proofs.ClimbLaws.{tables_more, taken_one}
use Rattle.name_resolution.proofs.tables.values_of.Goals as goal

pub loop-part-preserved : goal.loop-part-preserved
loop-part-preserved c =
    tables_more (λ n. n) (λ n. true) value_names c.loop-part.tables.items c.push.new.self.items _ (take c.loop-part.part-index c.args.parts.now) c.in_ok-table.table c.part-item.result c.loop-part.invariant
    (rw c.value_names.ensures at c.in_ok-table.ensures) c.in_ok-push.ensures.items (taken_one c.args.parts.now c.loop-part.part-index c.part-item.result c.loop-part-test.true c.part-item.is)
