use Rattle.std.proofs.Common.{rules, ◌≡◌, ◌-◌, ℤ, pos, ◌+ℤ◌, to_z, of_z, sym, ap, ◌∙◌, subst, option_map}
use Rattle.std.specs.Int.{w128}
use Rattle.st_tree.specs.declared.path.Path.{Path}
use Rattle.st_tree.specs.declared.path.Step.TheVariants as step
use Rattle.st_types.specs.declared.st_type.StType.{StType}
use Rattle.st_values.specs.Shape.{extent}
use Rattle.st_values.specs.View.{program_of}
use Rattle.program_tables.specs.st_initial.Members.{items_at}
use Rattle.program_tables.specs.st_initial.Variables.{variables_of}
use Rattle.program_tables.proofs.st_initial.WalkLaws.{positive}
use Rattle.st_change.specs.Instances.{further}
use Rattle.reference_start.specs.Private.Instances.{AddsElements, AddsType}
use Rattle.reference_start.proofs.InstanceLaws.{adds_elementary, adds_enumeration, adds_reference, adds_interface, adds_array, adds_structure, adds_instance, fields_next, elements_next, ElementsLeft}
use Rattle.reference_start.proofs.instances.+instances.Goals as goal

pub push_type-returns-in-Elementary : goal.push_type-returns-in-Elementary
push_type-returns-in-Elementary t c = adds_elementary (program_of c.args.program.now) c.args.path.now c.args.kind.now c.args.found.now.items c.args.depth _ c.in-Elementary.is

pub push_type-returns-in-Enumeration : goal.push_type-returns-in-Enumeration
push_type-returns-in-Enumeration t c = adds_enumeration (program_of c.args.program.now) c.args.path.now c.args.kind.now c.args.found.now.items c.args.depth _ c.in-Enumeration.is

pub push_type-returns-in-Reference : goal.push_type-returns-in-Reference
push_type-returns-in-Reference t c = adds_reference (program_of c.args.program.now) c.args.path.now c.args.kind.now c.args.found.now.items c.args.depth _ c.in-Reference.is

pub push_type-returns-in-Interface : goal.push_type-returns-in-Interface
push_type-returns-in-Interface t c = adds_interface (program_of c.args.program.now) c.args.path.now c.args.kind.now c.args.found.now.items c.args.depth _ c.in-Interface.is

pub push_type-returns-in_ok-push_elements-in-Array : goal.push_type-returns-in_ok-push_elements-in-Array
push_type-returns-in_ok-push_elements-in-Array t c =
    adds_array (program_of c.args.program.now) c.args.path.now c.args.kind.now c.args.depth c.in-Array.low c.in-Array.high c.in-Array.of c.args.found.now.items c.push_elements.new.found.items (positive c.args.depth c.if-depth-eq0.false) c.in-Array.is
    (subst (λ (x : StType). AddsElements (program_of c.args.program.now) (c.args.depth - 1) x c.args.path.now c.in-Array.low (extent c.in-Array.low c.in-Array.high) c.args.found.now.items c.push_elements.new.found.items) c.get.ensures c.in_ok-push_elements-in-Array.ensures)

pub push_type-returns-in_ok-push_fields-in-Structure : goal.push_type-returns-in_ok-push_fields-in-Structure
push_type-returns-in_ok-push_fields-in-Structure t c =
    adds_structure (program_of c.args.program.now) c.args.path.now c.args.kind.now c.args.depth c.in-Structure.n (variables_of (items_at (option_map (λ vs. vs.now) c.get-fields.result))) c.args.found.now.items c.push_fields.new.found.items (positive c.args.depth c.if-depth-eq0-2.false) c.in-Structure.is
    (ap (λ o. variables_of (items_at o)) c.get-fields.ensures.value ∙ c.requires.structures c.in-Structure.n) c.in_ok-push_fields-in-Structure.ensures

pub push_type-returns-in_ok-push_instance-in-Instance : goal.push_type-returns-in_ok-push_instance-in-Instance
push_type-returns-in_ok-push_instance-in-Instance t c =
    adds_instance (program_of c.args.program.now) c.args.path.now c.args.kind.now c.args.depth c.in-Instance.c (variables_of (items_at (option_map (λ vs. vs.now) c.get-variables.result))) c.args.found.now.items c.push_fields-in-Instance.new.found.items c.push_instance.new.found.items
    (positive c.args.depth c.if-depth-eq0-3.false) c.in-Instance.is (ap (λ o. variables_of (items_at o)) c.get-variables.ensures.value ∙ c.requires.classes c.in-Instance.c) c.in_ok-push_fields-in-Instance.ensures c.in_ok-push_instance-in-Instance.ensures

pub push_fields-loop-k-preserved : goal.push_fields-loop-k-preserved
push_fields-loop-k-preserved t c =
    fields_next (program_of c.args.program.now) c.args.depth c.as_slice-variable-items.result.now c.args.path.now c.args.found.now.items c.loop-k.k c.variable-item.result c.loop-k.found.items c.push_type.new.found.items c.loop-k-test.true c.variable-item.is c.loop-k.invariant
    (subst (λ (q : Path). AddsType (program_of c.args.program.now) c.args.depth c.variable-item.result.kind.now q c.loop-k.found.items c.push_type.new.found.items)
    (c.in_ok-field.ensures ∙ ap (λ n. further c.args.path.now (step.Field n)) c.in_ok-number.ensures) c.in_ok-push_type.ensures)

pub push_elements-elements-preserved-in-Some-checked_add : goal.push_elements-elements-preserved-in-Some-checked_add
push_elements-elements-preserved-in-Some-checked_add t c =
    let same : to_z w128 (of_z w128 c.in-Some-checked_add.next) ≡ c.in-Some-checked_add.next = search rules in
    let next : to_z w128 (of_z w128 c.in-Some-checked_add.next) ≡ to_z w128 c.elements.index-bits +ℤ pos 1 = same ∙ c.in-Some-checked_add.ensures.1 in
    subst (λ (z : ℤ). ElementsLeft (program_of c.args.program.now) c.args.depth c.args.of.now c.args.path.now c.args.low.now z c.in-Some.end (c.elements.left - 1) c.args.found.now.items c.push_type.new.found.items) (sym next)
    (elements_next (program_of c.args.program.now) c.args.depth c.args.of.now c.args.path.now c.args.low.now c.in-Some.end c.args.found.now.items (to_z w128 c.elements.index-bits) c.elements.left c.elements.found.items c.push_type.new.found.items
    c.elements-test.true c.elements.invariant
    (subst (λ (q : Path). AddsType (program_of c.args.program.now) c.args.depth c.args.of.now q c.elements.found.items c.push_type.new.found.items) c.in_ok-element.ensures c.in_ok-push_type.ensures))

pub push_elements-elements-preserved : goal.push_elements-elements-preserved
push_elements-elements-preserved t c =
    let same : to_z w128 (of_z w128 c.in-Some-checked_add.next) ≡ c.in-Some-checked_add.next = search rules in
    let next : to_z w128 (of_z w128 c.in-Some-checked_add.next) ≡ to_z w128 c.elements.index-bits +ℤ pos 1 = same ∙ c.in-Some-checked_add.ensures.1 in
    subst (λ (z : ℤ). ElementsLeft (program_of c.args.program.now) c.args.depth c.args.of.now c.args.path.now c.args.low.now z c.in-Some.end (c.elements.left - 1) c.args.found.now.items c.push_type.new.found.items) (sym next)
    (elements_next (program_of c.args.program.now) c.args.depth c.args.of.now c.args.path.now c.args.low.now c.in-Some.end c.args.found.now.items (to_z w128 c.elements.index-bits) c.elements.left c.elements.found.items c.push_type.new.found.items
    c.elements-test.true c.elements.invariant
    (subst (λ (q : Path). AddsType (program_of c.args.program.now) c.args.depth c.args.of.now q c.elements.found.items c.push_type.new.found.items) c.in_ok-element.ensures c.in_ok-push_type.ensures))
