use Rattle.default_values.proofs.structure_worths.CountLaws.{fields_next}
use Rattle.default_values.proofs.structure_worths.unweighed.part_of.Goals as goal

pub loop-group-preserved : goal.loop-group-preserved
loop-group-preserved c = fields_next c.as_slice-groups.result.now c.loop-group.group-index c.group-item.result _ _ _ c.loop-group-test.true c.group-item.is c.loop-group.invariant c.as_slice.ensures c.in_ok-add_fields.ensures
