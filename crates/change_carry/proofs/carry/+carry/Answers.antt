use Rattle.std.proofs.Common.{rules, ◌≡◌, ◌<◌, ℤ, pos, ◌+ℤ◌, Some, to_z, of_z, refl, sym, ap, ◌∙◌, arith}
use Rattle.std.proofs.lemmas.Option.{slice_get-get_or}
use Rattle.std.specs.Int.{w128}
use Rattle.st_change.specs.Carry as words
use Rattle.st_values.specs.View.{program_of}
use Rattle.shape_trees.specs.Shape.{shape_of, field_of}
use Rattle.value_trees.specs.Value.{value_of, values_of, members_of}
use Rattle.change_carry.specs.Private.Carry.{carried}
use Rattle.change_carry.specs.Private.Numbers.{number_by}
use Rattle.change_carry.specs.Private.Parts.{elements_of, part_named, part_of, parts_of}
use Rattle.change_carry.proofs.CarryLaws.{no_value_written, no_member_written, number_written, elements_written, no_elements_written, fields_written, no_fields_written, variables_written, no_variables_written, unpaired_written, item_stays, item_written, items_next, items_ended, field_stays, field_alone, field_written, members_next, members_ended}
use Rattle.change_carry.proofs.carry.+carry.Goals as goal

pub carry-returns-in-Number : goal.carry-returns-in-Number
carry-returns-in-Number t c =
    let same : to_z w128 (of_z w128 c.number_before.result) ≡ c.number_before.result = search rules in
    let was : to_z w128 (of_z w128 c.in-Number.n) ≡ c.in-Number.n = search rules in
    ap value_of c.put_back.ensures
    ∙ number_written (program_of c.args.c.now.old.program.now) (program_of c.args.c.now.new.program.now) c.args.keeping (shape_of c.args.shape.now) (shape_of c.args.old_shape.now) (value_of c.args.old.now) c.args.held.now c.in-Number.n c.number_before.result _ c.in-Number.ensures.value
    (c.number_before.ensures ∙ ap (number_by (shape_of c.args.shape.now) (shape_of c.args.old_shape.now) (value_of c.args.old.now)) was) same

pub carry_array-returns-in-Some : goal.carry_array-returns-in-Some
carry_array-returns-in-Some t c =
    elements_written (program_of c.args.c.now.old.program.now) (program_of c.args.c.now.new.program.now) c.args.keeping (shape_of c.args.old_shape.now) (value_of c.args.old.now) c.carry_items.result c.args.shape.now c.in-Array.of c.in-Array.low c.in-Array.field-1 c.get.result.now (elements_of c.in-Some.before) (values_of c.args.items.now) (values_of c.carry_items.new.items) c.in-Array.is c.get.ensures c.in-Some.ensures c.carry_items.ensures

pub carry_array-returns-in-None : goal.carry_array-returns-in-None
carry_array-returns-in-None t c =
    no_elements_written (program_of c.args.c.now.old.program.now) (program_of c.args.c.now.new.program.now) c.args.keeping (shape_of c.args.old_shape.now) (value_of c.args.old.now) c.args.shape.now c.in-Array.of c.in-Array.low c.in-Array.field-1 (values_of c.args.items.now) c.in-Array.is c.in-None.ensures

pub carry_instance-returns-in-Some-class_names : goal.carry_instance-returns-in-Some-class_names
carry_instance-returns-in-Some-class_names t c =
    variables_written (program_of c.args.c.now.old.program.now) (program_of c.args.c.now.new.program.now) c.args.keeping (shape_of c.args.old_shape.now) (value_of c.args.old.now) c.carry_parts.result c.args.shape.now c.in-Instance.class c.in-Instance.name c.in-Instance.variables c.as_slice.result.now c.in-Some-class_names.names.now (parts_of c.in-Some.before) (members_of c.args.members.now) (members_of c.carry_parts.new.members) c.in-Instance.is c.as_slice.ensures c.in-Some.ensures c.in-Some-class_names.ensures c.carry_parts.ensures

pub carry_instance-returns-in-None-class_names : goal.carry_instance-returns-in-None-class_names
carry_instance-returns-in-None-class_names t c =
    unpaired_written (program_of c.args.c.now.old.program.now) (program_of c.args.c.now.new.program.now) c.args.keeping (shape_of c.args.old_shape.now) (value_of c.args.old.now) c.args.shape.now c.in-Instance.class c.in-Instance.name c.in-Instance.variables (members_of c.args.members.now) c.in-Instance.is c.in-None-class_names.ensures

pub carry_instance-returns-in-None : goal.carry_instance-returns-in-None
carry_instance-returns-in-None t c =
    no_variables_written (program_of c.args.c.now.old.program.now) (program_of c.args.c.now.new.program.now) c.args.keeping (shape_of c.args.old_shape.now) (value_of c.args.old.now) c.args.shape.now c.in-Instance.class c.in-Instance.name c.in-Instance.variables (members_of c.args.members.now) c.in-Instance.is c.in-None.ensures

pub carry_item-returns-in_default : goal.carry_item-returns-in_default
carry_item-returns-in_default t c = (item_stays (program_of c.args.c.now.old.program.now) (program_of c.args.c.now.new.program.now) c.args.keeping (shape_of c.args.of.now) (elements_of c.args.before.now) c.args.index.now (values_of c.args.items.now) c.args.place c.in_default.ensures, refl)

pub carry_item-returns-in-Some-get_mut : goal.carry_item-returns-in-Some-get_mut
carry_item-returns-in-Some-get_mut t c =
    item_written (program_of c.args.c.now.old.program.now) (program_of c.args.c.now.new.program.now) c.args.keeping c.carry.result (shape_of c.args.of.now) (elements_of c.args.before.now) c.args.index.now c.args.items.now c.args.place c.in-Some-get_mut.held.now c.carry.new.held (value_of c.in-Some.old.now) c.in-Some.ensures c.in-Some-get_mut.ensures.item c.carry.ensures

pub carry_item-returns-in-None : goal.carry_item-returns-in-None
carry_item-returns-in-None t c = (no_value_written _ c.args.items.now c.args.place (sym c.in-None.ensures.item), refl)

pub carry_items-returns : goal.carry_items-returns
carry_items-returns t c =
    let e = c.len-k-end.ensures in
    let h = c.loop-k-test.false in
    items_ended (program_of c.args.c.now.old.program.now) (program_of c.args.c.now.new.program.now) c.args.keeping (shape_of c.args.of.now) (elements_of c.args.before.now) c.args.low.now c.args.items.now c.loop-k.items c.loop-k.k _ (omega (arith, e, h)) c.loop-k.invariant

pub carry_items-loop-k-preserved : goal.carry_items-loop-k-preserved
carry_items-loop-k-preserved t c =
    let same : to_z w128 (of_z w128 c.in-Some.next) ≡ c.in-Some.next = search rules in
    let next : to_z w128 (of_z w128 c.in-Some.next) ≡ to_z w128 c.loop-k.index-bits +ℤ pos 1 = same ∙ c.in-Some.ensures.1 in
    items_next (program_of c.args.c.now.old.program.now) (program_of c.args.c.now.new.program.now) c.args.keeping (shape_of c.args.of.now) (elements_of c.args.before.now) c.args.low.now c.args.items.now c.loop-k.items c.carry_item.new.items c.loop-k.k (to_z w128 c.loop-k.index-bits) _ next c.loop-k.invariant c.in_ok-carry_item.ensures

pub carry_member-returns-then-stays : goal.carry_member-returns-then-stays
carry_member-returns-then-stays t c = field_stays (program_of c.args.c.now.old.program.now) (program_of c.args.c.now.new.program.now) c.args.keeping c.args.field.now c.args.names.now (part_named (parts_of c.args.before.now)) (members_of c.args.members.now) c.args.place c.if-stays.ensures

pub carry_member-returns-in_default : goal.carry_member-returns-in_default
carry_member-returns-in_default t c = field_alone (program_of c.args.c.now.old.program.now) (program_of c.args.c.now.new.program.now) c.args.keeping c.args.field.now c.args.names.now (part_named (parts_of c.args.before.now)) (members_of c.args.members.now) c.args.place c.in_default.ensures

pub carry_member-returns-in-Some-get_mut : goal.carry_member-returns-in-Some-get_mut
carry_member-returns-in-Some-get_mut t c =
    field_written (program_of c.args.c.now.old.program.now) (program_of c.args.c.now.new.program.now) c.args.keeping c.args.field.now c.args.names.now (part_named (parts_of c.args.before.now)) c.carry.result c.args.members.now c.args.place c.in-Some-get_mut.member.now _ (part_of c.in-Some.part) c.if-stays.ensures c.in-Some.ensures c.in-Some-get_mut.ensures.item refl c.carry.ensures

pub carry_member-returns-in-None : goal.carry_member-returns-in-None
carry_member-returns-in-None t c = no_member_written (carried (program_of c.args.c.now.old.program.now) (program_of c.args.c.now.new.program.now) c.args.keeping (field_of c.args.field.now) c.args.names.now (part_named (parts_of c.args.before.now))) c.args.members.now c.args.place (sym c.in-None.ensures.item)

pub carry_parts-returns : goal.carry_parts-returns
carry_parts-returns t c = members_ended (program_of c.args.c.now.old.program.now) (program_of c.args.c.now.new.program.now) c.args.keeping c.args.names.now (part_named (parts_of c.args.before.now)) c.args.fields.now (members_of c.args.members.now) (members_of c.loop-k.members) c.loop-k.k c.loop-k-test.false c.loop-k.invariant

pub carry_parts-loop-k-preserved : goal.carry_parts-loop-k-preserved
carry_parts-loop-k-preserved t c =
    members_next (program_of c.args.c.now.old.program.now) (program_of c.args.c.now.new.program.now) c.args.keeping c.args.names.now (part_named (parts_of c.args.before.now)) c.args.fields.now (members_of c.args.members.now) (members_of c.loop-k.members) (members_of c.carry_member.new.members) c.loop-k.k c.index-fields-k.result
    (slice_get-get_or c.args.fields.now c.loop-k.k c.index-fields-k.result c.loop-k-test.true ∙ ap Some (sym c.index-fields-k.is)) c.loop-k.invariant c.in_ok-carry_member.ensures

pub carry_structure-returns-in-Some-structure_names : goal.carry_structure-returns-in-Some-structure_names
carry_structure-returns-in-Some-structure_names t c =
    fields_written (program_of c.args.c.now.old.program.now) (program_of c.args.c.now.new.program.now) c.args.keeping (shape_of c.args.old_shape.now) (value_of c.args.old.now) c.carry_parts.result c.args.shape.now c.in-Structure.number c.in-Structure.name c.in-Structure.fields c.as_slice.result.now c.in-Some-structure_names.names.now (parts_of c.in-Some.before) (members_of c.args.members.now) (members_of c.carry_parts.new.members) c.in-Structure.is c.as_slice.ensures c.in-Some.ensures c.in-Some-structure_names.ensures c.carry_parts.ensures

pub carry_structure-returns-in-None : goal.carry_structure-returns-in-None
carry_structure-returns-in-None t c =
    no_fields_written (program_of c.args.c.now.old.program.now) (program_of c.args.c.now.new.program.now) c.args.keeping (shape_of c.args.old_shape.now) (value_of c.args.old.now) c.args.shape.now c.in-Structure.number c.in-Structure.name c.in-Structure.fields (members_of c.args.members.now) c.in-Structure.is c.in-None.ensures
