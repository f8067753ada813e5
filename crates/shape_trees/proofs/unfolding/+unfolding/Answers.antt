use Rattle.std.proofs.Common.{◌≡◌, sym, ap, ◌∙◌, refl, Some, to_z, of_z, rules, option_map}
use Rattle.std.specs.Int.{w128}
use Rattle.program_tables.specs.st_initial.Members.{items_at}
use Rattle.program_tables.specs.st_initial.Variables.{variables_of}
use Rattle.st_values.specs.Shape.{shape_within}
use Rattle.st_values.specs.View.{program_of}
use Rattle.shape_trees.proofs.UnfoldLaws.{found_elementary, array_level, structure_level, instance_level, fields_next, fields_stopped, fields_ended, no_variables, of_variables}
use Rattle.shape_trees.proofs.unfolding.+unfolding.Goals as goal

pub unfold_array-returns-in_ok-element-in-Some : goal.unfold_array-returns-in_ok-element-in-Some
unfold_array-returns-in_ok-element-in-Some t c =
    let same : to_z w128 (of_z w128 c.args.low.now) ≡ c.args.low.now = search rules in
    array_level (program_of c.args.program.now) (shape_within (program_of c.args.program.now) c.args.depth) c.args.low.now _ c.args.high.now c.args.of.now _ c.in_ok-element.field-0 _
    c.in_ok-element.ensures (c.in-Some.is ∙ ap Some (sym c.in_ok-element-in-Some.ensures)) c.in-Some-count.ensures same

pub unfold_fields-returns-in_default : goal.unfold_fields-returns-in_default
unfold_fields-returns-in_default t c =
    no_variables (program_of c.args.program.now) (shape_within (program_of c.args.program.now) c.args.depth) c.args.variables c.new-fields.result c.in_default.is c.new-fields.ensures

pub unfold_fields-returns-in-None : goal.unfold_fields-returns-in-None
unfold_fields-returns-in-None t c =
    let p = program_of c.args.program.now in
    let f = shape_within p c.args.depth in
    of_variables p f c.args.variables c.in-Some.variables c.as_slice-variable-items.result.now _ c.in-Some.is c.as_slice-variable-items.ensures
    (fields_stopped p f c.as_slice-variable-items.result.now c.loop-variable.variable-index c.variable-item.result c.in_ok-shape.field-0 c.loop-variable.fields c.loop-variable-test.true c.variable-item.is c.loop-variable.invariant c.in_ok-shape.ensures c.in-None.is)

pub unfold_fields-returns : goal.unfold_fields-returns
unfold_fields-returns t c =
    let p = program_of c.args.program.now in
    let f = shape_within p c.args.depth in
    of_variables p f c.args.variables c.in-Some.variables c.as_slice-variable-items.result.now _ c.in-Some.is c.as_slice-variable-items.ensures
    (fields_ended p f c.as_slice-variable-items.result.now c.loop-variable.variable-index c.loop-variable.fields c.loop-variable-test.false c.loop-variable.invariant)

pub unfold-returns-in-Elementary : goal.unfold-returns-in-Elementary
unfold-returns-in-Elementary t c = found_elementary (program_of c.args.program.now) c.args.kind.now c.args.depth _ c.in-Elementary.is

pub unfold_fields-loop-variable-preserved : goal.unfold_fields-loop-variable-preserved
unfold_fields-loop-variable-preserved t c =
    fields_next (program_of c.args.program.now) (shape_within (program_of c.args.program.now) c.args.depth) c.as_slice-variable-items.result.now c.loop-variable.variable-index c.variable-item.result c.in_ok-shape.field-0 _ c.loop-variable.fields c.push.new.self
    c.loop-variable-test.true c.variable-item.is c.loop-variable.invariant c.in_ok-shape.ensures c.in-Some-2.is refl c.in_ok-push-in-Some-2.ensures.ok

pub unfold_instance-returns-in-Some-2 : goal.unfold_instance-returns-in-Some-2
unfold_instance-returns-in-Some-2 t c =
    instance_level (program_of c.args.program.now) (shape_within (program_of c.args.program.now) c.args.depth) c.args.class c.in-Some.name (variables_of (items_at (option_map (λ vs. vs.now) c.get-variables.result))) c.in_ok-fields.field-0 c.in-Some-2.fields
    c.in-Some.ensures (ap (λ o. variables_of (items_at o)) c.get-variables.ensures.value ∙ c.requires.classes c.args.class) c.in_ok-fields.ensures c.in-Some-2.is

pub unfold_structure-returns-in-Some-2 : goal.unfold_structure-returns-in-Some-2
unfold_structure-returns-in-Some-2 t c =
    structure_level c.args.program.now (shape_within (program_of c.args.program.now) c.args.depth) c.args.number c.in-Some.decl.now _ (variables_of (items_at (option_map (λ vs. vs.now) c.get-variables.result))) c.in_ok-fields.field-0 c.in-Some-2.fields
    c.in-Some.ensures.value (sym c.is_structure.ensures ∙ c.if-not-is_structure.false) refl
    (ap (λ o. variables_of (items_at o)) c.get-variables.ensures.value ∙ c.requires.structures c.args.number) c.in_ok-fields.ensures c.in-Some-2.is
