use Rattle.std.proofs.Common.{sym, ◌∙◌}
use Rattle.shape_trees.proofs.PartLaws.{instance_found, instance_next}
use Rattle.shape_trees.proofs.instances.+instances.Goals as goal

pub a_field_has_instance-returns-then-has_instance : goal.a_field_has_instance-returns-then-has_instance
a_field_has_instance-returns-then-has_instance t c =
    instance_found c.args.fields.now c.loop-field.field-index c.field-item.result c.loop-field-test.true c.field-item.is c.loop-field.invariant (sym c.has_instance.ensures ∙ c.if-has_instance.true)

pub a_field_has_instance-loop-field-preserved : goal.a_field_has_instance-loop-field-preserved
a_field_has_instance-loop-field-preserved t c =
    instance_next c.args.fields.now c.loop-field.field-index c.field-item.result c.loop-field-test.true c.field-item.is c.loop-field.invariant (sym c.has_instance.ensures ∙ c.if-has_instance.false)
