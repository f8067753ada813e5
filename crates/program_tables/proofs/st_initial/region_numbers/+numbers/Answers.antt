use Rattle.std.proofs.Common.{◌-◌, ◌++◌, take, sym, ap, ◌∙◌}
use Rattle.std.specs.Prelude.{slice_get}
use Rattle.st_tree.specs.Initial.{fields_of}
use Rattle.st_values.specs.Initial.{list_given}
use Rattle.st_values.specs.Shape.{extent}
use Rattle.program_tables.specs.st_initial.Variables.{variables_of}
use Rattle.program_tables.specs.st_initial.Private.Numbers.{variable_numbers, element_numbers, type_numbers}
use Rattle.program_tables.specs.st_initial.Members.{items_at, list_at}
use Rattle.program_tables.proofs.st_initial.WalkLaws.{then_ok, given_by, positive, elementary_numbers, enumeration_numbers, array_numbers, structure_numbers, instance_numbers, elements_step, given_some, given_none, variables_step}
use Rattle.program_tables.proofs.st_initial.region_numbers.+numbers.Goals as goal
use Rattle.program_tables.proofs.st_initial.region_numbers.+numbers.Goals.{push_variables-in-Some-given_for, push_variables-in-None}

pub push_type-returns-in-Elementary : goal.push_type-returns-in-Elementary
push_type-returns-in-Elementary t c =
    then_ok c.push_number.result c.push_number.ensures (λ e p h.
    e ∙ ap (λ v. c.args.out.now.items ++ v) (sym (elementary_numbers p c.args.path.now c.args.kind.now (given_by c.args.given) c.args.depth _ c.in-Elementary.is)))

pub push_type-returns-in-Enumeration : goal.push_type-returns-in-Enumeration
push_type-returns-in-Enumeration t c =
    then_ok c.push_number-in-Enumeration.result c.push_number-in-Enumeration.ensures (λ e p h.
    e ∙ ap (λ v. c.args.out.now.items ++ v) (sym (enumeration_numbers p c.args.path.now c.args.kind.now (given_by c.args.given) c.args.depth _ c.in-Enumeration.is)))

pub push_type-returns-else-depth-eq0 : goal.push_type-returns-else-depth-eq0
push_type-returns-else-depth-eq0 t c =
    let l = positive c.args.depth c.if-depth-eq0.false in
    then_ok c.push_array.result c.push_array.ensures (λ e p h.
    e p h
    ∙ ap (λ of. c.args.out.now.items ++ element_numbers (type_numbers p (c.args.depth - 1)) c.args.path.now c.in-Array.low of (take (extent c.in-Array.low c.in-Array.high) (list_given (given_by c.args.given))) 0 (extent c.in-Array.low c.in-Array.high)) c.get.ensures
    ∙ ap (λ v. c.args.out.now.items ++ v) (sym (array_numbers p c.args.path.now c.args.kind.now (given_by c.args.given) c.args.depth c.in-Array.low c.in-Array.high c.in-Array.of l c.in-Array.is)))

pub push_type-returns-else-depth-eq0-2 : goal.push_type-returns-else-depth-eq0-2
push_type-returns-else-depth-eq0-2 t c =
    let l = positive c.args.depth c.if-depth-eq0-2.false in
    then_ok c.push_variables.result c.push_variables.ensures (λ e p h.
    e p h
    ∙ ap (λ o. c.args.out.now.items ++ variable_numbers (type_numbers p (c.args.depth - 1)) c.args.path.now 0 (variables_of (items_at o)) (fields_of c.fields_given.result.now)) c.get-fields.ensures.value
    ∙ ap (λ gs. c.args.out.now.items ++ variable_numbers (type_numbers p (c.args.depth - 1)) c.args.path.now 0 (list_at c.args.members.now.structures c.in-Structure.n) gs) (sym c.fields_given.ensures)
    ∙ ap (λ v. c.args.out.now.items ++ v) (sym (structure_numbers p c.args.path.now c.args.kind.now (given_by c.args.given) c.args.depth c.in-Structure.n c.args.members.now l c.in-Structure.is h)))

pub push_type-returns-else-depth-eq0-3 : goal.push_type-returns-else-depth-eq0-3
push_type-returns-else-depth-eq0-3 t c =
    let l = positive c.args.depth c.if-depth-eq0-3.false in
    then_ok c.push_variables-in-Instance.result c.push_variables-in-Instance.ensures (λ e p h.
    e p h
    ∙ ap (λ o. c.args.out.now.items ++ variable_numbers (type_numbers p (c.args.depth - 1)) c.args.path.now 0 (variables_of (items_at o)) (fields_of c.fields_given-in-Instance.result.now)) c.get-variables.ensures.value
    ∙ ap (λ gs. c.args.out.now.items ++ variable_numbers (type_numbers p (c.args.depth - 1)) c.args.path.now 0 (list_at c.args.members.now.classes c.in-Instance.c) gs) (sym c.fields_given-in-Instance.ensures)
    ∙ ap (λ v. c.args.out.now.items ++ v) (sym (instance_numbers p c.args.path.now c.args.kind.now (given_by c.args.given) c.args.depth c.in-Instance.c c.args.members.now l c.in-Instance.is h)))

pub push_array-loop-k-preserved : goal.push_array-loop-k-preserved
push_array-loop-k-preserved t c =
    elements_step c.args.members.now c.args.depth c.args.path.now c.args.low.now c.args.of.now c.in_ok-givens.givens.items c.in-Some.end c.loop-k.k c.loop-k.out.items c.push_type.new.out.items c.args.out.now.items c.in_ok-place.place c.given_at-given.result
    c.loop-k-test.true c.loop-k.invariant c.in_ok-place.ensures (c.given_at-given.ensures ∙ ap (λ is. slice_get is c.loop-k.k) c.deref.ensures.value) (λ p h. c.in_ok-push_type.ensures p h)

pub push_variables-loop-k-preserved : goal.push_variables-loop-k-preserved
push_variables-loop-k-preserved t c =
    variables_step c.args.members.now c.args.depth c.args.path.now c.as_slice-variable-items.result.now (fields_of c.args.inits.now) c.loop-k.k c.variable-item.result c.loop-k.out.items c.push_type.new.out.items c.args.out.now.items c.in_ok-place.place
    (given_by c.match-given_for.given) c.loop-k-test.true c.variable-item.is c.loop-k.invariant c.in_ok-place.ensures
    (elim c.match-given_for.branch [
      | push_variables-in-Some-given_for w ↦ given_some c.given_for.result c.match-given_for.given w.in-Some-given_for.init _ _ w.in-Some-given_for.is w.given-is c.given_for.ensures
      | push_variables-in-None w ↦ given_none c.given_for.result c.match-given_for.given _ _ w.in-None.is w.given-is c.given_for.ensures
    ])
    (λ p h. c.in_ok-push_type.ensures p h)
