use Rattle.std.proofs.Common.{refl}
use Rattle.st_rules.proofs.ListLaws.{left_next, left_end}
use Rattle.st_tree.specs.Initial.{field_of, fields_of, part_of, parts_of}
use Rattle.st_unit_rules.specs.Cycles.{named_in_initial, named_in_part, named_in_parts, named_in_fields}
use Rattle.declared_graph.specs.Private.Names.{all_named}
use Rattle.declared_graph.proofs.texts.+values.Goals as goal

pub add_parts-loop-part-preserved : goal.add_parts-loop-part-preserved
add_parts-loop-part-preserved t c =
    left_next (λ xs. named_in_parts (parts_of xs)) c.args.parts.now c.loop-part.part-index c.part-item.result (all_named c.loop-part.list.items) _ (named_in_part (part_of c.part-item.result)) _
    c.loop-part-test.true c.part-item.is refl c.in_ok-add_part.ensures c.loop-part.invariant

pub add_parts-returns : goal.add_parts-returns
add_parts-returns t c = left_end (λ xs. named_in_parts (parts_of xs)) c.args.parts.now c.loop-part.part-index (all_named c.loop-part.list.items) _ refl c.loop-part-test.false c.loop-part.invariant

pub add_fields-loop-field-preserved : goal.add_fields-loop-field-preserved
add_fields-loop-field-preserved t c =
    left_next (λ xs. named_in_fields (fields_of xs)) c.args.fields.now c.loop-field.field-index c.field-item.result (all_named c.loop-field.list.items) _ (named_in_initial (field_of c.field-item.result).2) _
    c.loop-field-test.true c.field-item.is refl c.in_ok-add_field.ensures c.loop-field.invariant

pub add_fields-returns : goal.add_fields-returns
add_fields-returns t c = left_end (λ xs. named_in_fields (fields_of xs)) c.args.fields.now c.loop-field.field-index (all_named c.loop-field.list.items) _ refl c.loop-field-test.false c.loop-field.invariant
