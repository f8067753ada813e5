use Rattle.std.proofs.Common.{rules, ◌≡◌, ◌-◌, ℤ, pos, ◌+ℤ◌, to_z, of_z, refl, sym, ap, ◌∙◌, subst}
use Rattle.std.specs.Prelude.{not}
use Rattle.std.specs.Int.{w128}
use Rattle.st_tree.specs.declared.path.Path.{Path}
use Rattle.st_tree.specs.declared.path.Step.TheVariants as step
use Rattle.st_change.specs.Instances.{further}
use Rattle.change_kept.specs.Private.Instances.{AddsShape}
use Rattle.change_kept.proofs.InstanceLaws.{adds_elementary, adds_enumeration, adds_reference, adds_interface, adds_array, adds_structure, adds_instance, fields_next, elements_next, ElementsLeft}
use Rattle.change_kept.proofs.instances.+instances.Goals as goal

pub push_shape-returns-in-Elementary : goal.push_shape-returns-in-Elementary
push_shape-returns-in-Elementary t c = adds_elementary c.args.owner c.args.path.now c.args.found.now.items c.args.shape.now _ c.in-Elementary.is

pub push_shape-returns-in-Enumeration : goal.push_shape-returns-in-Enumeration
push_shape-returns-in-Enumeration t c = adds_enumeration c.args.owner c.args.path.now c.args.found.now.items c.args.shape.now _ _ c.in-Enumeration.is

pub push_shape-returns-in-Reference : goal.push_shape-returns-in-Reference
push_shape-returns-in-Reference t c = adds_reference c.args.owner c.args.path.now c.args.found.now.items c.args.shape.now _ _ c.in-Reference.is

pub push_shape-returns-in-Interface : goal.push_shape-returns-in-Interface
push_shape-returns-in-Interface t c = adds_interface c.args.owner c.args.path.now c.args.found.now.items c.args.shape.now _ _ c.in-Interface.is

pub push_shape-returns-in_ok-push_elements-in-Array : goal.push_shape-returns-in_ok-push_elements-in-Array
push_shape-returns-in_ok-push_elements-in-Array t c =
    adds_array c.args.owner c.args.shape.now c.args.path.now c.args.found.now.items c.in-Array.low c.in-Array.count c.in-Array.element c.get.result.now c.push_elements.new.found.items c.in-Array.is c.get.ensures c.in_ok-push_elements-in-Array.ensures

pub push_shape-returns-in_ok-push_fields-in-Structure : goal.push_shape-returns-in_ok-push_fields-in-Structure
push_shape-returns-in_ok-push_fields-in-Structure t c =
    adds_structure c.args.owner c.args.shape.now c.args.path.now c.args.found.now.items _ _ c.in-Structure.fields c.as_slice.result.now c.push_fields.new.found.items c.in-Structure.is c.as_slice.ensures c.in_ok-push_fields-in-Structure.ensures

pub push_fields-loop-k-preserved : goal.push_fields-loop-k-preserved
push_fields-loop-k-preserved t c =
    fields_next c.args.owner c.args.fields.now c.args.path.now c.args.found.now.items c.loop-k.k c.index-fields-k.result c.loop-k.found.items c.push_shape.new.found.items c.loop-k-test.true c.index-fields-k.is c.loop-k.invariant
    (subst (λ (q : Path). AddsShape c.args.owner c.index-fields-k.result.shape q c.loop-k.found.items c.push_shape.new.found.items)
    (c.in_ok-place.ensures ∙ ap (λ n. further c.args.path.now (step.Field n)) c.in_ok-number.ensures) c.in_ok-push_shape.ensures)

pub push_elements-elements-preserved-in-Some : goal.push_elements-elements-preserved-in-Some
push_elements-elements-preserved-in-Some t c =
    let same : to_z w128 (of_z w128 c.in-Some.next) ≡ c.in-Some.next = search rules in
    let next : to_z w128 (of_z w128 c.in-Some.next) ≡ to_z w128 c.elements.index-bits +ℤ pos 1 = same ∙ c.in-Some.ensures.1 in
    subst (λ (z : ℤ). ElementsLeft c.args.owner c.args.element.now c.args.path.now c.args.low.now z c.args.count (c.elements.left - 1) c.args.found.now.items c.push_shape.new.found.items) (sym next)
    (elements_next c.args.owner c.args.element.now c.args.path.now c.args.low.now c.args.count c.args.found.now.items (to_z w128 c.elements.index-bits) c.elements.left c.elements.found.items c.push_shape.new.found.items
    c.elements-test.true c.elements.invariant
    (subst (λ (q : Path). AddsShape c.args.owner c.args.element.now q c.elements.found.items c.push_shape.new.found.items) c.in_ok-place.ensures c.in_ok-push_shape.ensures))

pub push_elements-elements-preserved : goal.push_elements-elements-preserved
push_elements-elements-preserved t c =
    let same : to_z w128 (of_z w128 c.in-Some.next) ≡ c.in-Some.next = search rules in
    let next : to_z w128 (of_z w128 c.in-Some.next) ≡ to_z w128 c.elements.index-bits +ℤ pos 1 = same ∙ c.in-Some.ensures.1 in
    subst (λ (z : ℤ). ElementsLeft c.args.owner c.args.element.now c.args.path.now c.args.low.now z c.args.count (c.elements.left - 1) c.args.found.now.items c.push_shape.new.found.items) (sym next)
    (elements_next c.args.owner c.args.element.now c.args.path.now c.args.low.now c.args.count c.args.found.now.items (to_z w128 c.elements.index-bits) c.elements.left c.elements.found.items c.push_shape.new.found.items
    c.elements-test.true c.elements.invariant
    (subst (λ (q : Path). AddsShape c.args.owner c.args.element.now q c.elements.found.items c.push_shape.new.found.items) c.in_ok-place.ensures c.in_ok-push_shape.ensures))

pub push_shape-returns-in_ok-push_instance-in-Instance-2 : goal.push_shape-returns-in_ok-push_instance-in-Instance-2
push_shape-returns-in_ok-push_instance-in-Instance-2 t c =
    adds_instance c.args.shape.now c.args.path.now c.args.found.now.items c.push_instance.new.found.items c.push_fields-in-Instance.new.found.items c.push_instance-in-Instance.new.found.items c.in-Instance.class c.in-Instance.field-1 c.in-Instance.fields
    c.as_slice-in-Instance.result.now c.args.owner c.is_first-first.result (not c.is_first-first.result) c.in-Instance.is c.as_slice-in-Instance.ensures c.is_first-first.ensures refl
    c.in_ok-push_instance-in-Instance.ensures c.in_ok-push_fields-in-Instance.ensures c.in_ok-push_instance-in-Instance-2.ensures
