use Rattle.std.proofs.Common.{rules, ◌≡◌, ℕ, suc, ◌-◌, ◌<◌, ◌≤◌, Some, length, get_or, refl, ap, ◌∙◌, arith}
use Rattle.std.specs.Prelude.{min}
use Rattle.st_tree.specs.Initial.{initial_of, part_of}
use Rattle.st_unit_rules.specs.Initials.{part_count}
use Rattle.st_unit_rules.specs.Worth.{worth_within}
use Rattle.default_values.specs.given_values.Lent.{lent}
use Rattle.default_values.proofs.initial_worths.PutLaws.{put_none_of_many}
use Rattle.default_values.proofs.initial_worths.WalkLaws as w
use Rattle.default_values.proofs.initial_worths.LoopLaws as loops
use Rattle.default_values.proofs.initial_worths.walk.+weigh.Goals as goal

-- ---- types

pub weigh-returns-then-steps-eq0 : goal.weigh-returns-then-steps-eq0
weigh-returns-then-steps-eq0 g t c =
    let none : c.args.steps ≡ 0 = omega (arith, c.if-steps-eq0.true) in
    w.finds_none _ _ _ _ (λ u e a m. w.no_steps c.args.steps (g.S.ConstantValues.scope c.args.s.now) c.args.kind.now (lent c.args.given) none u e)

pub weigh-returns-in_ok-found-in-Array : goal.weigh-returns-in_ok-found-in-Array
weigh-returns-in_ok-found-in-Array g t c =
    let some : 0 < c.args.steps = omega (arith, c.if-steps-eq0.false) in
    w.array_arm _ _ _ c.args.steps _ _ _ some _ _ _ _ _ _ _ c.in-Array.is c.get.ensures c.in_ok-room-in-Array.ensures c.parts_given-parts.ensures c.in_ok-found-in-Array.ensures

pub weigh-returns-in_ok-found-in-Structure : goal.weigh-returns-in_ok-found-in-Structure
weigh-returns-in_ok-found-in-Structure g t c =
    let some : 0 < c.args.steps = omega (arith, c.if-steps-eq0.false) in
    w.structure_arm _ _ _ c.args.steps _ _ _ some _ _ _ c.in-Structure.is c.fields_given-fields.ensures c.in_ok-found-in-Structure.ensures

pub weigh-returns-in-Instance : goal.weigh-returns-in-Instance
weigh-returns-in-Instance g t c =
    let some : 0 < c.args.steps = omega (arith, c.if-steps-eq0.false) in
    w.instance_arm _ _ c.args.steps _ _ _ _ some c.in-Instance.is

pub weigh-returns-in_ok-number-in-Reference : goal.weigh-returns-in_ok-number-in-Reference
weigh-returns-in_ok-number-in-Reference g t c =
    let some : 0 < c.args.steps = omega (arith, c.if-steps-eq0.false) in
    w.reference_arm _ _ _ c.args.steps _ _ _ some _ _ c.in-Reference.is c.in_ok-number-in-Reference.ensures

pub weigh-returns-in_ok-number-in-Interface : goal.weigh-returns-in_ok-number-in-Interface
weigh-returns-in_ok-number-in-Interface g t c =
    let some : 0 < c.args.steps = omega (arith, c.if-steps-eq0.false) in
    w.interface_arm _ _ _ c.args.steps _ _ _ some _ _ c.in-Interface.is c.in_ok-number-in-Interface.ensures

pub weigh-returns-in_ok-found-in-Elementary : goal.weigh-returns-in_ok-found-in-Elementary
weigh-returns-in_ok-found-in-Elementary g t c =
    let some : 0 < c.args.steps = omega (arith, c.if-steps-eq0.false) in
    w.elementary_arm _ _ _ c.args.steps _ _ _ some _ _ c.in-Elementary.is c.in_ok-found-in-Elementary.ensures

pub weigh-returns-in_ok-found-in-Enumeration : goal.weigh-returns-in_ok-found-in-Enumeration
weigh-returns-in_ok-found-in-Enumeration g t c =
    let some : 0 < c.args.steps = omega (arith, c.if-steps-eq0.false) in
    w.enumeration_arm _ _ _ c.args.steps _ _ _ some _ _ c.in-Enumeration.is c.in_ok-found-in-Enumeration.ensures

-- ---- arrays

pub weigh_array-returns : goal.weigh_array-returns
weigh_array-returns g t c = w.whole_found _ _ _ _ _ _ _ _ c.in_ok-list.ensures c.in_ok-found.ensures

-- ---- many

pub put_many-returns-then-times-eq0 : goal.put_many-returns-then-times-eq0
put_many-returns-then-times-eq0 g t c = let none : c.args.times ≡ 0 = omega (arith, c.if-times-eq0.true) in put_none_of_many _ c.args.behind c.args.times _ _ none

pub put_many-returns : goal.put_many-returns
put_many-returns g t c = w.many_found _ _ _ _ _ _ _ _ _ _ c.in_ok-found.ensures c.in_ok-list.ensures

-- ---- the elements of an array

pub put_elements-returns-in-Some : goal.put_elements-returns-in-Some
put_elements-returns-in-Some g t c =
    let same = c.deref.ensures.value ∙ c.in_ok-rooms.ensures in
    w.elements_found_as _ _ (λ u e. worth_within u e c.args.steps (g.S.ConstantValues.scope c.args.s.now) c.args.of.now) c.args.room _ c.args.parts.now
    (c.room_at-rest.ensures ∙ ap (λ rs. get_or rs (length c.args.parts.now) 0) same ∙ w.room_behind c.args.room c.args.parts.now)
    _ _ _ _ c.in_ok-end.ensures _ _ _ _ c.in-Some.is c.in_ok-behind.ensures (c.in_ok-list-in-Some.ensures c.args.room (c.deref-in-Some.ensures.value ∙ c.in_ok-rooms.ensures))

pub put_elements-returns : goal.put_elements-returns
put_elements-returns g t c =
    let same = c.deref.ensures.value ∙ c.in_ok-rooms.ensures in
    w.elements_none_as _ _ (λ u e. worth_within u e c.args.steps (g.S.ConstantValues.scope c.args.s.now) c.args.of.now) c.args.room _ c.args.parts.now
    (c.room_at-rest.ensures ∙ ap (λ rs. get_or rs (length c.args.parts.now) 0) same ∙ w.room_behind c.args.room c.args.parts.now)
    _ _ _ _ c.in_ok-end.ensures _ c.in-None.is c.in_ok-behind.ensures

pub put_parts-parts-init : goal.put_parts-parts-init
put_parts-parts-init g t c = loops.parts_begun _ _ _ _ _ _ _

pub put_parts-parts-preserved : goal.put_parts-parts-preserved
put_parts-parts-preserved g t c =
    loops.parts_next c.args.structures.now c.args.steps (λ u e. worth_within u e c.args.steps (g.S.ConstantValues.scope c.args.s.now) c.args.of.now) c.args.rooms.now c.args.parts.now c.args.behind c.args.table.now
    c.parts.table c.put_many.new.table c.parts.list c.parts.left.now c.in-Some.before.now c.in-Some.part.now c.used-times.result (Some (initial_of c.value_of.result.now))
    c.parts.invariant c.in-Some.ensures.cases.0 (c.used-times.ensures ∙ ap (min (part_count (part_of c.in-Some.part.now))) c.room_at.ensures) (ap Some c.value_of.ensures)
    c.in-Some-put.longer c.in_ok-put.put c.in-Some-put.is c.in_ok-put.ensures

pub put_parts-returns-in-None : goal.put_parts-returns-in-None
put_parts-returns-in-None g t c =
    loops.parts_none c.args.structures.now c.args.steps (λ u e. worth_within u e c.args.steps (g.S.ConstantValues.scope c.args.s.now) c.args.of.now) c.args.rooms.now c.args.parts.now c.args.behind c.args.table.now
    c.parts.table c.put_many.new.table c.parts.list c.parts.left.now c.in-Some.before.now c.in-Some.part.now c.used-times.result (Some (initial_of c.value_of.result.now))
    c.parts.invariant c.in-Some.ensures.cases.0 (c.used-times.ensures ∙ ap (min (part_count (part_of c.in-Some.part.now))) c.room_at.ensures) (ap Some c.value_of.ensures)
    c.in_ok-put.put c.in-None.is c.in_ok-put.ensures

pub put_parts-returns : goal.put_parts-returns
put_parts-returns g t c =
    loops.parts_done c.args.structures.now c.args.steps (λ u e. worth_within u e c.args.steps (g.S.ConstantValues.scope c.args.s.now) c.args.of.now) c.args.rooms.now c.args.parts.now c.args.behind c.args.table.now
    c.parts.table c.parts.list c.parts.left.now c.parts.invariant c.in_default.ensures.cases

-- ---- the fields of a structure

pub put_names-names-init : goal.put_names-names-init
put_names-names-init g t c = loops.names_begun _ _ _ _ _ _ _ _

pub put_names-names-preserved : goal.put_names-names-preserved
put_names-names-preserved g t c =
    loops.names_next c.args.structures.now c.args.steps (g.S.ConstantValues.scope c.args.s.now) c.args.group.now c.args.names.now c.args.fields.now c.args.behind c.args.table.now
    c.names.table c.put_field.new.table c.names.list c.names.left.now c.in-Some.before.now c.in-Some.name.now (lent c.given_for-value.result) c.names.invariant c.in-Some.ensures.cases.0 c.given_for-value.ensures
    c.in-Some-put.longer c.in_ok-put.put c.in-Some-put.is c.in_ok-put.ensures

pub put_names-returns-in-None : goal.put_names-returns-in-None
put_names-returns-in-None g t c =
    loops.names_none c.args.structures.now c.args.steps (g.S.ConstantValues.scope c.args.s.now) c.args.group.now c.args.names.now c.args.fields.now c.args.behind c.args.table.now
    c.names.table c.put_field.new.table c.names.list c.names.left.now c.in-Some.before.now c.in-Some.name.now (lent c.given_for-value.result) c.names.invariant c.in-Some.ensures.cases.0 c.given_for-value.ensures
    c.in_ok-put.put c.in-None.is c.in_ok-put.ensures

pub put_names-returns : goal.put_names-returns
put_names-returns g t c =
    loops.names_done c.args.structures.now c.args.steps (g.S.ConstantValues.scope c.args.s.now) c.args.group.now c.args.names.now c.args.fields.now c.args.behind c.args.table.now
    c.names.table c.names.list c.names.left.now c.names.invariant c.in_default.ensures.cases

pub put_group-returns : goal.put_group-returns
put_group-returns g t c =
    loops.group_named c.args.structures.now c.args.steps (g.S.ConstantValues.scope c.args.s.now) c.args.group.now c.as_slice-names.result.now c.args.fields.now c.args.behind c.args.table.now c.put_names.new.table c.in_ok-put.put c.as_slice-names.ensures
    c.in_ok-put.ensures

pub put_groups-loop-place-init : goal.put_groups-loop-place-init
put_groups-loop-place-init g t c = loops.groups_begun _ _ _ _ _ _ _ _ (omega (arith))

pub put_groups-loop-place-preserved : goal.put_groups-loop-place-preserved
put_groups-loop-place-preserved g t c =
    let some : 0 < c.loop-place.place = omega (arith, c.loop-place-test.true) in
    loops.groups_next c.args.structures.now c.args.steps (g.S.ConstantValues.scope c.args.s.now) c.args.groups.now c.args.fields.now c.args.behind c.args.table.now
    c.loop-place.table c.put_group.new.table c.loop-place.list c.loop-place.place (c.loop-place.place - 1) c.index-groups-place.result c.loop-place.invariant some refl c.index-groups-place.is
    c.in-Some.longer c.in_ok-put.put c.in-Some.is c.in_ok-put.ensures

pub put_groups-returns-in-None : goal.put_groups-returns-in-None
put_groups-returns-in-None g t c =
    let some : 0 < c.loop-place.place = omega (arith, c.loop-place-test.true) in
    loops.groups_none c.args.structures.now c.args.steps (g.S.ConstantValues.scope c.args.s.now) c.args.groups.now c.args.fields.now c.args.behind c.args.table.now
    c.loop-place.table c.put_group.new.table c.loop-place.list c.loop-place.place (c.loop-place.place - 1) c.index-groups-place.result c.loop-place.invariant some refl c.index-groups-place.is
    c.in_ok-put.put c.in-None.is c.in_ok-put.ensures

pub put_groups-returns : goal.put_groups-returns
put_groups-returns g t c =
    let none : c.loop-place.place ≡ 0 = omega (arith, c.loop-place-test.false) in
    loops.groups_done c.args.structures.now c.args.steps (g.S.ConstantValues.scope c.args.s.now) c.args.groups.now c.args.fields.now c.args.behind c.args.table.now
    c.loop-place.table c.loop-place.list c.loop-place.place c.loop-place.invariant none

pub put_field-returns-in_ok-list-in-Some : goal.put_field-returns-in_ok-list-in-Some
put_field-returns-in_ok-list-in-Some g t c =
    w.field_given_as _ _ c.args.structures.now c.args.steps (g.S.ConstantValues.scope c.args.s.now) c.args.group.now (lent c.args.given) (initial_of c.in-Some.field-0.now) c.args.behind _ (ap lent c.in-Some.is) c.in_ok-list-in-Some.ensures

pub weigh_structure-returns-then-structure-steps : goal.weigh_structure-returns-then-structure-steps
weigh_structure-returns-then-structure-steps g t c =
    let deep : suc c.args.steps < c.in-Some.structure.now.steps = omega (arith, c.if-structure-steps.true) in
    w.structure_too_deep _ _ c.args.steps c.args.number c.in-Some.structure.now _ _ c.in-Some.ensures deep

pub weigh_structure-returns-in_ok-found-in-Some : goal.weigh_structure-returns-in_ok-found-in-Some
weigh_structure-returns-in_ok-found-in-Some g t c =
    let fits : c.in-Some.structure.now.steps ≤ suc c.args.steps = omega (arith, c.if-structure-steps.false) in
    w.structure_found c.args.structures.now c.args.steps c.args.number (g.S.ConstantValues.scope c.args.s.now) c.args.fields.now c.args.table.now c.no_parts.new.self c.in_ok-end-in-Some.end c.in_ok-end-in-Some.ensures c.in-Some.structure.now
    c.as_slice-groups.result.now c.put_groups.new.table c.whole_of.new.table c.in_ok-list-in-Some.list c.in_ok-found-in-Some.found c.in-Some.ensures fits c.as_slice-groups.ensures.value c.in_ok-list-in-Some.ensures c.in_ok-found-in-Some.ensures

pub weigh_structure-returns-in_ok-found-in-None : goal.weigh_structure-returns-in_ok-found-in-None
weigh_structure-returns-in_ok-found-in-None g t c =
    w.structure_not_there c.args.structures.now c.args.steps c.args.number (g.S.ConstantValues.scope c.args.s.now) c.args.fields.now c.args.table.now c.no_parts-in-None.new.self c.in_ok-end-in-None.end c.in_ok-end-in-None.ensures c.whole_of-in-None.new.table
    c.in_ok-found-in-None.found c.in-None.ensures c.in_ok-found-in-None.ensures
