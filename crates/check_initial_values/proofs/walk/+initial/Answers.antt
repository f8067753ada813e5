use Rattle.std.proofs.Common.{◌∙◌}
use Rattle.check_initial_values.proofs.ListLaws.{parts_begun, parts_next, parts_ended, fields_begun, fields_next, fields_ended}
use Rattle.check_initial_values.proofs.NodeLaws.{value_arm, array_arm, fields_arm, one_arm, repeated_arm, field_arm}
use Rattle.check_initial_values.proofs.walk.+initial.Goals as goal

-- ---- values

pub check_initial-returns-in_ok-c-in-Value : goal.check_initial-returns-in_ok-c-in-Value
check_initial-returns-in_ok-c-in-Value t c = value_arm _ _ _ _ _ c.in-Value.is c.in_ok-c-in-Value.ensures

pub check_initial-returns-in_ok-found-in-Array : goal.check_initial-returns-in_ok-found-in-Array
check_initial-returns-in_ok-found-in-Array t c = array_arm _ _ _ _ _ _ _ _ _ _ c.in-Array.is c.as_slice-parts.ensures c.in_ok-own-in-Array.ensures c.element_given.ensures c.in_ok-found-in-Array.ensures c.array_of.ensures

pub check_initial-returns-in_ok-found-in-Fields : goal.check_initial-returns-in_ok-found-in-Fields
check_initial-returns-in_ok-found-in-Fields t c = fields_arm _ _ _ _ _ _ _ _ _ c.in-Fields.is c.as_slice.ensures c.no_fields_fault-own.ensures c.in_ok-found-in-Fields.ensures c.fields_of.ensures

-- ---- parts

pub check_parts-loop-part-init : goal.check_parts-loop-part-init
check_parts-loop-part-init t c = parts_begun _ _ _ _ c.no_part-so_far.ensures

pub check_parts-loop-part-preserved : goal.check_parts-loop-part-preserved
check_parts-loop-part-preserved t c = parts_next _ _ _ _ _ _ _ _ _ c.loop-part-test.true c.part-item.is c.in_ok-so_far.ensures c.in_ok-one.ensures c.loop-part.invariant

pub check_parts-returns : goal.check_parts-returns
check_parts-returns t c = parts_ended _ _ _ _ _ _ c.loop-part-test.false c.loop-part.invariant

pub check_part-returns-in_ok-x-in-One : goal.check_part-returns-in_ok-x-in-One
check_part-returns-in_ok-x-in-One t c = one_arm _ _ _ _ _ _ c.in-One.is c.in_ok-x-in-One.ensures c.one_of.ensures

pub check_part-returns-in_ok-x-in-Repeated : goal.check_part-returns-in_ok-x-in-Repeated
check_part-returns-in_ok-x-in-Repeated t c =
    repeated_arm _ _ _ _ _ _ _ _ _ c.in-Repeated.is (c.in_ok-digits-in-Repeated.ensures ∙ c.as_str.ensures) c.in_ok-x-in-Repeated.ensures c.repeated_of.ensures

-- ---- values with names

pub check_fields-loop-field-init : goal.check_fields-loop-field-init
check_fields-loop-field-init t c = fields_begun _ _ _ _ _ c.no_field-so_far.ensures c.new-before.ensures

pub check_fields-loop-field-preserved : goal.check_fields-loop-field-preserved
check_fields-loop-field-preserved t c =
    fields_next _ _ _ _ _ _ _ _ _ _ _ c.loop-field-test.true c.field-item.is c.in_ok-name.ensures.found c.in_ok-name.ensures.held c.in_ok-one.ensures c.in_ok-so_far.ensures c.loop-field.invariant

pub check_fields-returns : goal.check_fields-returns
check_fields-returns t c = fields_ended _ _ _ _ _ _ c.loop-field-test.false c.loop-field.invariant

pub check_field-returns : goal.check_field-returns
check_field-returns t c =
    field_arm _ _ _ _ _ _ _ _ c.given_by-g.ensures c.given_type.ensures c.in_ok-named.ensures.note c.in_ok-named.ensures.name c.in_ok-x.ensures c.field_of.ensures
