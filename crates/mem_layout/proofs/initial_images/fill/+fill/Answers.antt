use Rattle.std.proofs.Common.{rules, to_z, of_z, ◌≡◌, ◌+◌, ◌/◌, ◌<◌, drop, refl, sym, ap, ◌∙◌, subst}
use Rattle.std.specs.Int.{w128}
use Rattle.std.specs.Prelude.{slice_get}
use Rattle.std.proofs.lemmas.Option.{slice_get-map}
use Rattle.st_types.specs.declared.elem.Elem.TheVariants.{Udint, Ulint}
use Rattle.st_types.specs.Range.{Fits}
use Rattle.st_tree.specs.Initial.{initial_of, fields_of}
use Rattle.st_rules.specs.Chains.{◌or_else◌}
use Rattle.mem_image.specs.Image.{written}
use Rattle.st_values.specs.Initial.{given_for}
use Rattle.st_values.specs.Shape.{region_shape}
use Rattle.st_values.specs.View.{program_of}
use Rattle.program_tables.specs.st_initial.Given.{inits_of}
use Rattle.program_tables.specs.st_initial.Members.{items_at}
use Rattle.program_tables.specs.st_initial.Variables.{variable_of, variables_of}
use Rattle.program_tables.proofs.st_initial.WalkLaws.{then_ok, given_by, given_some, given_none}
use Rattle.mem_layout.proofs.EntryLaws.{variables_cut, variables_done}
use Rattle.mem_layout.specs.initial_images.Private.Fill.{CanFill, CanFillFields, Filled, FieldsFilled}
use Rattle.mem_layout.proofs.initial_images.TypeLaws.{number_can, number_done, enumerator_can, enumerator_done, reference_done, interface_done, array_can, array_done, structure_done, class_can, instance_done}
use Rattle.mem_layout.proofs.initial_images.LoopLaws.{elements_begun, size_is, end_is, element_can, next_low, next_element, all_elements, no_bytes, lent, FieldsLeft, field_there, field_low, field_filled, fields_ended, from_is, always_there}
use Rattle.mem_layout.proofs.initial_images.fill.+fill.Goals as goal
use Rattle.mem_layout.proofs.initial_images.fill.+fill.Goals.{fill_variables-in-Some-given_for, fill_variables-in-None}

pub fill_type-returns-in-Elementary : goal.fill_type-returns-in-Elementary
fill_type-returns-in-Elementary t c = λ q.
    let p = program_of c.args.layout.now in
    let e = c.in-Elementary.e in
    let g = given_by c.args.given in
    let i = c.args.offset in
    let im = c.args.image.now in
    let can = number_can p c.args.depth c.args.kind.now g i im e c.in-Elementary.is q in
    let same : to_z w128 (of_z w128 c.number_given.result) ≡ c.number_given.result = search rules in
    let w = c.put_number.ensures (subst (Fits e) (sym (same ∙ c.number_given.ensures)) can.0) can.1 in
    number_done p c.args.depth c.args.kind.now g i im e _ c.in-Elementary.is q (w ∙ ap (written e im i) (same ∙ c.number_given.ensures))

pub fill_type-returns-in-Enumeration : goal.fill_type-returns-in-Enumeration
fill_type-returns-in-Enumeration t c = λ q.
    let p = program_of c.args.layout.now in
    let k = c.in-Enumeration.field-0 in
    let g = given_by c.args.given in
    let i = c.args.offset in
    let im = c.args.image.now in
    let can = enumerator_can p c.args.depth c.args.kind.now g i im k c.in-Enumeration.is q in
    let same : to_z w128 (of_z w128 c.number_given-in-Enumeration.result) ≡ c.number_given-in-Enumeration.result = search rules in
    let w = c.put_number-in-Enumeration.ensures (subst (Fits Udint) (sym (same ∙ c.number_given-in-Enumeration.ensures)) can.0) can.1 in
    enumerator_done p c.args.depth c.args.kind.now g i im k _ c.in-Enumeration.is q (w ∙ ap (written Udint im i) (same ∙ c.number_given-in-Enumeration.ensures))

pub fill_type-returns-in-Reference : goal.fill_type-returns-in-Reference
fill_type-returns-in-Reference t c = λ q. reference_done (program_of c.args.layout.now) c.args.depth c.args.kind.now (given_by c.args.given) c.args.offset c.args.image.now c.in-Reference.field-0 c.in-Reference.is q

pub fill_type-returns-in-Interface : goal.fill_type-returns-in-Interface
fill_type-returns-in-Interface t c = λ q. interface_done (program_of c.args.layout.now) c.args.depth c.args.kind.now (given_by c.args.given) c.args.offset c.args.image.now c.in-Interface.field-0 c.in-Interface.is q

pub fill_type-returns-else-depth-eq0 : goal.fill_type-returns-else-depth-eq0
fill_type-returns-else-depth-eq0 t c =
    then_ok c.fill_elements.result c.fill_elements.ensures (λ f q.
    let x = c.in-Array in
    let p = program_of c.args.layout.now in
    let g = given_by c.args.given in
    let can = array_can p c.args.depth c.args.kind.now g c.args.offset c.args.image.now _ _ x.of _ c.size_of.result x.is c.get.ensures (λ h s u. c.size_of.ensures h s u) q in
    array_done p c.args.depth c.args.kind.now g c.args.offset c.args.image.now _ _ x.of _ _ x.is c.get.ensures (f _ can))

pub fill_type-returns-else-depth-eq0-2 : goal.fill_type-returns-else-depth-eq0-2
fill_type-returns-else-depth-eq0-2 t c =
    then_ok c.fill_variables.result c.fill_variables.ensures (λ f q.
    let p = program_of c.args.layout.now in
    let k = c.in-Structure.k in
    let g = given_by c.args.given in
    let v = ap (λ o. variables_of (items_at o)) c.get-in-Structure.ensures.value ∙ c.requires.members.structures k in
    let gs = sym c.fields_given.ensures in
    structure_done p c.args.depth c.args.kind.now g c.args.offset c.args.image.now k _ _ _ c.in-Structure.is q v gs f)

pub fill_type-returns-else-depth-eq0-3 : goal.fill_type-returns-else-depth-eq0-3
fill_type-returns-else-depth-eq0-3 t c =
    then_ok c.fill_variables-in-Instance.result c.fill_variables-in-Instance.ensures (λ f q.
    let p = program_of c.args.layout.now in
    let k = c.in-Instance.c in
    let g = given_by c.args.given in
    let i = c.args.offset in
    let im = c.args.image.now in
    let im' = c.put_number-in-Instance.new.image in
    let v = ap (λ o. variables_of (items_at o)) c.get-in-Instance.ensures.value ∙ c.requires.members.classes k in
    let gs = sym c.fields_given-in-Instance.ensures in
    let may = class_can p c.args.depth c.args.kind.now g i im k c.in-Instance.is q in
    let same : to_z w128 (of_z w128 c.from.result) ≡ c.from.result = search rules in
    let number = same ∙ c.from.ensures in
    let w = c.put_number-in-Instance.ensures (subst (Fits Ulint) (sym number) may.0) may.1 ∙ ap (written Ulint im i) number in
    instance_done p c.args.depth c.args.kind.now g i im im' k _ _ _ c.in-Instance.is q v gs w f)

-- ---- elements

pub fill_elements-returns-then-element-eq0 : goal.fill_elements-returns-then-element-eq0
fill_elements-returns-then-element-eq0 t c = λ many q.
    let p = program_of c.args.layout.now in
    let s = size_is p c.args.depth c.args.of.now many c.args.bytes _ c.args.offset c.args.image.now q c.size_of-element.result (λ h sh u. c.size_of-element.ensures h sh u) in
    no_bytes p c.args.depth c.args.of.now many c.args.bytes _ c.args.offset c.args.image.now q c.size_of-element.result s c.if-element-eq0.true

pub fill_elements-loop-k-init : goal.fill_elements-loop-k-init
fill_elements-loop-k-init t c = λ many q. elements_begun (region_shape (program_of c.args.layout.now)) q.shape (inits_of c.in_ok-givens.givens.items) many c.args.offset c.args.image.now q.room

pub fill_elements-returns-in_default : goal.fill_elements-returns-in_default
fill_elements-returns-in_default t c = λ many q.
    let p = program_of c.args.layout.now in
    let element = c.size_of-element.result in
    let end = c.args.bytes / element in
    let s = size_is p c.args.depth c.args.of.now many c.args.bytes _ c.args.offset c.args.image.now q element (λ h sh u. c.size_of-element.ensures h sh u) in
    let e = end_is p c.args.depth c.args.of.now many c.args.bytes _ c.args.offset c.args.image.now q element end s c.if-element-eq0.false refl in
    let lt = subst (λ m. c.loop-k.k < m) e c.loop-k-test.true in
    let low = next_low p c.args.depth c.args.of.now many c.args.bytes _ c.args.offset c.args.image.now q (inits_of c.in_ok-givens.givens.items) c.loop-k.k c.loop-k.at c.loop-k.image lt (c.loop-k.invariant many q) in
    absurd (c.in_default.ensures (subst (λ m. c.loop-k.at + m < 4294967296) (sym s) low))

pub fill_elements-loop-k-preserved : goal.fill_elements-loop-k-preserved
fill_elements-loop-k-preserved t c = λ many q.
    let p = program_of c.args.layout.now in
    let n = c.args.depth in
    let of = c.args.of.now in
    let element = c.size_of-element.result in
    let end = c.args.bytes / element in
    let is = inits_of c.in_ok-givens.givens.items in
    let k = c.loop-k.k in
    let at = c.loop-k.at in
    let a = c.loop-k.image in
    let b = c.fill_type.new.image in
    let left = c.loop-k.invariant many q in
    let s = size_is p n of many c.args.bytes _ c.args.offset c.args.image.now q element (λ h sh u. c.size_of-element.ensures h sh u) in
    let e = end_is p n of many c.args.bytes _ c.args.offset c.args.image.now q element end s c.if-element-eq0.false refl in
    let lt = subst (λ m. k < m) e c.loop-k-test.true in
    let can = element_can p n of many c.args.bytes _ c.args.offset c.args.image.now q is end k at a c.in_ok-givens.ensures lt left in
    let g : given_by c.given_at-given.result ≡ slice_get is k = ap given_by (c.given_at-given.ensures ∙ ap (λ xs. slice_get xs k) c.deref.ensures.value) ∙ sym (slice_get-map (λ i. initial_of i.now) c.in_ok-givens.givens.items k) in
    let f = c.in_ok-fill_type.ensures (subst (λ o. CanFill p n of o at a) (sym g) can) in
    next_element p n of many c.args.bytes _ c.args.offset c.args.image.now q is k at c.in-Some.next element a b lt left s c.in-Some.ensures.1 (subst (λ o. Filled p n of o at a b) g f)

pub fill_elements-returns : goal.fill_elements-returns
fill_elements-returns t c = λ many q.
    let p = program_of c.args.layout.now in
    let n = c.args.depth in
    let of = c.args.of.now in
    let element = c.size_of-element.result in
    let end = c.args.bytes / element in
    let s = size_is p n of many c.args.bytes _ c.args.offset c.args.image.now q element (λ h sh u. c.size_of-element.ensures h sh u) in
    let e = end_is p n of many c.args.bytes _ c.args.offset c.args.image.now q element end s c.if-element-eq0.false refl in
    all_elements p n of many c.args.bytes _ c.args.offset c.args.image.now q (inits_of c.in_ok-givens.givens.items) end c.loop-k.k c.loop-k.at c.loop-k.image e c.in_ok-givens.ensures c.loop-k-test.false (c.loop-k.invariant many q)

-- ---- variables

pub fill_variables-returns-in_default-field_of : goal.fill_variables-returns-in_default-field_of
fill_variables-returns-in_default-field_of t c = record {
  by = λ q.
      let p = program_of c.args.layout.now in
      let n = c.args.depth in
      let gs = fields_of c.args.inits.now in
      let i = c.args.offset in
      let im = c.args.image.now in
      let list = c.as_slice-variable-items.result.now in
      let k = c.loop-k.k in
      let v = c.variable-item.result in
      let vs = lent c.args.variables c.in-Some.variables list c.in-Some.is c.as_slice-variable-items.ensures in
      let own = subst (λ x. CanFillFields p n c.args.kind.now x gs i im) vs q in
      let left = subst (λ x. FieldsLeft p n own.start own.fields x gs k i im c.loop-k.image) (variables_cut list k v c.loop-k-test.true c.variable-item.is) (c.loop-k.invariant own) in
      let there = field_there p n own.start own.fields (variable_of v) (variables_of (drop (k + 1) list)) gs k i im c.loop-k.image own.deep own.few left in
      absurd (always_there p n c.args.kind.now (variables_of list) gs i im own k c.in-Ok.field there.from there.shape c.in-Ok.ensures.1 there.place (λ h s u. c.in_default-field_of.ensures h s u));
}

pub fill_variables-returns-in_default-checked_add : goal.fill_variables-returns-in_default-checked_add
fill_variables-returns-in_default-checked_add t c = record {
  by = λ q.
      let p = program_of c.args.layout.now in
      let n = c.args.depth in
      let gs = fields_of c.args.inits.now in
      let i = c.args.offset in
      let im = c.args.image.now in
      let list = c.as_slice-variable-items.result.now in
      let k = c.loop-k.k in
      let v = c.variable-item.result in
      let vs = lent c.args.variables c.in-Some.variables list c.in-Some.is c.as_slice-variable-items.ensures in
      let own = subst (λ x. CanFillFields p n c.args.kind.now x gs i im) vs q in
      let left = subst (λ x. FieldsLeft p n own.start own.fields x gs k i im c.loop-k.image) (variables_cut list k v c.loop-k-test.true c.variable-item.is) (c.loop-k.invariant own) in
      let there = field_there p n own.start own.fields (variable_of v) (variables_of (drop (k + 1) list)) gs k i im c.loop-k.image own.deep own.few left in
      let from = from_is p n c.args.kind.now (variables_of list) gs i im own k c.in-Ok.field there.from there.shape c.in-Some-field_of.from _ c.in-Ok.ensures.1 there.place (λ h s u. c.in-Some-field_of.ensures h s u) in
      let low = field_low p n own.start own.fields (variable_of v) _ k i c.loop-k.image there in
      absurd (c.in_default-checked_add.ensures (subst (λ m. i + m < 4294967296) (sym from) low));
}

pub fill_variables-loop-k-preserved : goal.fill_variables-loop-k-preserved
fill_variables-loop-k-preserved t c = λ q.
    let p = program_of c.args.layout.now in
    let n = c.args.depth in
    let gs = fields_of c.args.inits.now in
    let i = c.args.offset in
    let im = c.args.image.now in
    let list = c.as_slice-variable-items.result.now in
    let k = c.loop-k.k in
    let v = c.variable-item.result in
    let a = c.loop-k.image in
    let b = c.fill_type.new.image in
    let left = subst (λ x. FieldsLeft p n q.start q.fields x gs k i im a) (variables_cut list k v c.loop-k-test.true c.variable-item.is) (c.loop-k.invariant q) in
    let there = field_there p n q.start q.fields (variable_of v) (variables_of (drop (k + 1) list)) gs k i im a q.deep q.few left in
    let from = from_is p n c.args.kind.now (variables_of list) gs i im q k c.in-Ok.field there.from there.shape c.in-Some-field_of.from _ c.in-Ok.ensures.1 there.place (λ h s u. c.in-Some-field_of.ensures h s u) in
    let at : c.in-Some-checked_add.at ≡ i + there.from = c.in-Some-checked_add.ensures.1 ∙ ap (λ m. i + m) from in
    let own = given_for v.name.now gs or_else given_by v.initial in
    let given : given_by c.match-given_for.given ≡ own = elim c.match-given_for.branch [
      | fill_variables-in-Some-given_for w ↦ given_some c.given_for.result c.match-given_for.given w.in-Some-given_for.init _ _ w.in-Some-given_for.is w.given-is c.given_for.ensures
      | fill_variables-in-None w ↦ given_none c.given_for.result c.match-given_for.given _ _ w.in-None.is w.given-is c.given_for.ensures
    ] in
    let can = subst (λ o. CanFill p n v.kind.now o c.in-Some-checked_add.at a) (sym given) (subst (λ j. CanFill p n v.kind.now own j a) (sym at) there.can) in
    let f = subst (λ j. Filled p n v.kind.now (given_by c.match-given_for.given) j a b) at (c.in_ok-fill_type.ensures can) in
    field_filled p n q.start q.fields (variable_of v) (variables_of (drop (k + 1) list)) gs (given_by c.match-given_for.given) k i there.from there.shape im a b left there.place given f

pub fill_variables-returns : goal.fill_variables-returns
fill_variables-returns t c =
    let p = program_of c.args.layout.now in
    let n = c.args.depth in
    let gs = fields_of c.args.inits.now in
    let list = c.as_slice-variable-items.result.now in
    let vs = lent c.args.variables c.in-Some.variables list c.in-Some.is c.as_slice-variable-items.ensures in
    subst (λ x. FieldsFilled p n c.args.kind.now x gs c.args.offset c.args.image.now c.loop-k.image) (sym vs)
    (record { by = λ own. fields_ended p n own.start own.fields (variables_of (drop c.loop-k.k list)) gs c.loop-k.k c.args.offset c.args.image.now c.loop-k.image (variables_done list c.loop-k.k c.loop-k-test.false) (c.loop-k.invariant own) })
