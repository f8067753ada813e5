use Rattle.std.proofs.Common.{◌-◌, Some, sym, ap, ◌∙◌, option_map}
use Rattle.st_tree.specs.Initial.{fields_of}
use Rattle.st_values.specs.View.{program_of}
use Rattle.program_tables.specs.st_initial.Given.{inits_of}
use Rattle.program_tables.specs.st_initial.Members.{items_at}
use Rattle.program_tables.specs.st_initial.Variables.{variables_of}
use Rattle.st_values.specs.Shape.{extent}
use Rattle.value_trees.specs.Value.{value_of, values_of}
use Rattle.initial_trees.specs.Private.Trees.{given_by, value_within, members_within, elements_within, array_within}
use Rattle.initial_trees.proofs.ListLaws.{elements_next, members_next, members_ended, elements_ended}
use Rattle.program_tables.proofs.st_initial.WalkLaws.{positive}
use Rattle.initial_trees.proofs.LevelLaws.{elementary_value, enumeration_value, reference_value, interface_value, array_value, structure_value, instance_value}
use Rattle.initial_trees.proofs.StepLaws.{number_found, null_found, array_seen, no_array_seen, none_needed, array_found, structure_found, instance_found}
use Rattle.initial_trees.proofs.trees.+trees.Goals as goal

pub value_within-returns-in-Elementary : goal.value_within-returns-in-Elementary
value_within-returns-in-Elementary t c =
    ap Some c.number_value.ensures ∙ sym (elementary_value (program_of c.args.program.now) c.args.kind.now (given_by c.args.given) c.args.depth _ c.in-Elementary.is)

pub value_within-returns-then-is_enumeration : goal.value_within-returns-then-is_enumeration
value_within-returns-then-is_enumeration t c =
    number_found _ (given_by c.args.given) _ _ (enumeration_value (program_of c.args.program.now) c.args.kind.now (given_by c.args.given) c.args.depth c.in-Enumeration.n c.in-Enumeration.is) (sym c.is_enumeration.ensures ∙ c.if-is_enumeration.true)
    c.number_value-then-is_enumeration.ensures

pub value_within-returns-then-has_class : goal.value_within-returns-then-has_class
value_within-returns-then-has_class t c =
    null_found _ _ _ (reference_value (program_of c.args.program.now) c.args.kind.now (given_by c.args.given) c.args.depth c.in-Reference.c c.in-Reference.is) (sym c.has_class.ensures ∙ c.if-has_class.true) c.null_value.ensures

pub value_within-returns-then-has_interface : goal.value_within-returns-then-has_interface
value_within-returns-then-has_interface t c =
    null_found _ _ _ (interface_value (program_of c.args.program.now) c.args.kind.now (given_by c.args.given) c.args.depth c.in-Interface.i c.in-Interface.is) (sym c.has_interface.ensures ∙ c.if-has_interface.true) c.null_value-then-has_interface.ensures

pub value_within-returns-in-Some : goal.value_within-returns-in-Some
value_within-returns-in-Some t c =
    array_seen _ c.in-Array.low _ c.in_ok-elements-in-Array.field-0 _ c.in-Some.elements
    (array_value (program_of c.args.program.now) c.args.kind.now (given_by c.args.given) c.args.depth c.in-Array.low c.in-Array.high c.in-Array.of (positive c.args.depth c.if-depth-eq0.false) c.in-Array.is)
    (c.in_ok-elements-in-Array.ensures ∙ ap (λ of. array_within (program_of c.args.program.now) (c.args.depth - 1) of (extent c.in-Array.low c.in-Array.high) (given_by c.args.given)) c.get-of.ensures)
    c.in-Some.is c.array_value.ensures

pub value_within-returns-in-None : goal.value_within-returns-in-None
value_within-returns-in-None t c =
    no_array_seen c.in-Array.low _ c.in_ok-elements-in-Array.field-0 _
    (array_value (program_of c.args.program.now) c.args.kind.now (given_by c.args.given) c.args.depth c.in-Array.low c.in-Array.high c.in-Array.of (positive c.args.depth c.if-depth-eq0.false) c.in-Array.is)
    (c.in_ok-elements-in-Array.ensures ∙ ap (λ of. array_within (program_of c.args.program.now) (c.args.depth - 1) of (extent c.in-Array.low c.in-Array.high) (given_by c.args.given)) c.get-of.ensures)
    c.in-None.is

pub value_within-returns-in_ok-v-in-Structure : goal.value_within-returns-in_ok-v-in-Structure
value_within-returns-in_ok-v-in-Structure t c =
    c.in_ok-v-in-Structure.ensures ∙ sym (structure_value (program_of c.args.program.now) c.args.kind.now (given_by c.args.given) c.args.depth c.in-Structure.n (positive c.args.depth c.if-depth-eq0-2.false) c.in-Structure.is)

pub value_within-returns-in_ok-v-in-Instance : goal.value_within-returns-in_ok-v-in-Instance
value_within-returns-in_ok-v-in-Instance t c =
    c.in_ok-v-in-Instance.ensures ∙ sym (instance_value (program_of c.args.program.now) c.args.kind.now (given_by c.args.given) c.args.depth c.in-Instance.c (positive c.args.depth c.if-depth-eq0-3.false) c.in-Instance.is)

pub array_within-returns-then-end-eq0 : goal.array_within-returns-then-end-eq0
array_within-returns-then-end-eq0 t c =
    none_needed (program_of c.args.program.now) c.args.depth c.args.of.now (given_by c.args.given) c.in_ok-one.one (option_map values_of c.no_elements.result) c.in-Some.end (extent c.args.low.now c.args.high.now) c.in_ok-one.ensures c.no_elements.ensures c.in-Some.ensures
    c.if-end-eq0.true

pub array_within-returns : goal.array_within-returns
array_within-returns t c =
    array_found (program_of c.args.program.now) c.args.depth c.args.of.now (given_by c.args.given) c.in-Some.end (extent c.args.low.now c.args.high.now) (inits_of c.in_ok-givens.givens.items) (option_map values_of c.in_ok-elements.elements)
    c.in-Some.ensures (positive c.in-Some.end c.if-end-eq0.false) c.in_ok-givens.ensures (c.in_ok-elements.ensures ∙ ap (λ is. elements_within (program_of c.args.program.now) c.args.depth c.args.of.now (inits_of is) 0 c.in-Some.end) c.deref.ensures.value)

pub elements_within-loop-k-preserved : goal.elements_within-loop-k-preserved
elements_within-loop-k-preserved t c =
    elements_next (program_of c.args.program.now) c.args.depth c.args.of.now (inits_of c.args.givens.now) c.args.end c.loop-k.k (given_by c.given_at-given.result) c.loop-k.found c.push_value.new.found _ c.loop-k-test.true c.loop-k.invariant c.given_at-given.ensures
    (sym c.in_ok-value.ensures ∙ ap (option_map value_of) c.in-Some.is) c.in_ok-push_value-in-Some.ensures

pub elements_within-returns : goal.elements_within-returns
elements_within-returns t c = elements_ended (program_of c.args.program.now) c.args.depth c.args.of.now (inits_of c.args.givens.now) c.args.end c.loop-k.k c.loop-k.found c.loop-k-test.false c.loop-k.invariant

pub structure_within-returns-in_ok-copy-in-Some-2 : goal.structure_within-returns-in_ok-copy-in-Some-2
structure_within-returns-in_ok-copy-in-Some-2 t c =
    structure_found (program_of c.args.program.now) c.args.depth c.args.n (given_by c.args.given) c.args.members.now _ c.in-Some.name _ _ _ _ _ c.structure_name.ensures c.in-Some.is (c.in_ok-copy-in-Some-2.ensures ∙ c.as_str.ensures) c.get-variables.ensures.value (c.requires.structures c.args.n) c.fields_given.ensures
    c.in_ok-fields.ensures c.in-Some-2.is

pub instance_within-returns-in_ok-copy-in-Some-2 : goal.instance_within-returns-in_ok-copy-in-Some-2
instance_within-returns-in_ok-copy-in-Some-2 t c =
    instance_found (program_of c.args.program.now) c.args.depth c.args.c (given_by c.args.given) c.args.members.now _ c.in-Some.name _ _ _ _ _ c.class_name.ensures c.in-Some.is (c.in_ok-copy-in-Some-2.ensures ∙ c.as_str.ensures) c.get-variables.ensures.value (c.requires.classes c.args.c) c.fields_given.ensures
    c.in_ok-fields.ensures c.in-Some-2.is

pub members_within-returns : goal.members_within-returns
members_within-returns t c =
    c.in_ok-found.ensures
    ∙ ap (λ vs. members_within (program_of c.args.program.now) c.args.depth (variables_of vs) (fields_of c.args.inits.now)) c.as_slice-variables.ensures
    ∙ ap (λ o. members_within (program_of c.args.program.now) c.args.depth (variables_of (items_at (option_map (λ vs. vs.now) o))) (fields_of c.args.inits.now)) (sym c.in-Some.is)

pub members_by-loop-variable-preserved : goal.members_by-loop-variable-preserved
members_by-loop-variable-preserved t c =
    members_next (program_of c.args.program.now) c.args.depth c.args.variables.now (fields_of c.args.inits.now) c.loop-variable.variable-index c.variable-item.result c.loop-variable.found c.push_member.new.found _ c.loop-variable-test.true c.variable-item.is c.loop-variable.invariant
    (ap (value_within (program_of c.args.program.now) c.args.depth c.variable-item.result.kind.now) (sym c.given_to-given.ensures) ∙ sym c.in_ok-value.ensures ∙ ap (option_map value_of) c.in-Some.is) c.in_ok-push_member-in-Some.ensures

pub members_by-returns : goal.members_by-returns
members_by-returns t c = members_ended (program_of c.args.program.now) c.args.depth c.args.variables.now (fields_of c.args.inits.now) c.loop-variable.variable-index c.loop-variable.found c.loop-variable-test.false c.loop-variable.invariant
