use Rattle.std.proofs.Common.{take}
use Rattle.std.specs.Prelude.{true}
use Rattle.st_rules.specs.Scope.{field_list}
use Rattle.name_resolution.proofs.ClimbLaws.{tables_more, taken_one}
use Rattle.name_resolution.proofs.tables.fields_of.Goals as goal

pub loop-part-preserved : goal.loop-part-preserved
loop-part-preserved c =
    tables_more (λ f. f.name) (λ f. true) field_list c.loop-part.tables.items c.push.new.self.items _ (take c.loop-part.part-index c.args.parts.now) c.in_ok-table.table c.part-item.result c.loop-part.invariant
    (rw c.field_list.ensures at c.in_ok-table.ensures) c.in_ok-push.ensures.items (taken_one c.args.parts.now c.loop-part.part-index c.part-item.result c.loop-part-test.true c.part-item.is)
