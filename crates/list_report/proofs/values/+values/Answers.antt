use Rattle.list_report.proofs.ValueLaws.{values_next}
use Rattle.list_report.proofs.values.+values.Goals as goal

pub field_value_count-loop-field-preserved : goal.field_value_count-loop-field-preserved
field_value_count-loop-field-preserved t c =
    values_next c.args.fields.now c.loop-field.field-index c.field-item.result c.loop-field.all c.in_ok-one.one c.in_ok-all.all _ c.loop-field-test.true c.field-item.is c.loop-field.invariant c.in_ok-one.ensures c.in_ok-all.ensures
