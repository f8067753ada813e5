use Rattle.std.proofs.Common.{◌≡◌, ◌<◌, ◌-◌, suc, length, Some, refl, sym, ap, ◌∙◌, subst, arith}
use Rattle.std.specs.Prelude.{slice_get}
use Rattle.std.proofs.lemmas.Option.{slice_get-get_or}
use Rattle.st_tree.specs.declared.path.Step.TheVariants as step
use Rattle.mem_layout.specs.Private.Table.{start}
use Rattle.mem_layout.specs.Private.Way.{AreRising, AreBefore}
use Rattle.mem_layout.proofs.PlaceLaws.{fields_are}
use Rattle.mem_layout.proofs.WayLaws.{rising, fields_none, fields_enter}
use Rattle.mem_layout.proofs.ways.into_fields.Goals as goal

pub returns-then-before-eq0 : goal.returns-then-before-eq0
returns-then-before-eq0 c = λ p n sh f r h s.
    let e = c.in-Some.entry.now in
    let fa = fields_are p c.args.tables.now n c.args.class c.args.k sh e f h s c.in-Some.ensures.sound in
    let up = subst AreRising (sym c.as_slice-rows.ensures) (rising e.fields fa.fields (start c.args.class) fa.rows-are) in
    let b = subst (λ rows. AreBefore rows c.args.left c.fields_before-before.result) c.as_slice-rows.ensures (c.fields_before-before.ensures.before up) in
    fields_none p n c.args.class sh e.fields fa c.args.left c.fields_before-before.result b c.if-before-eq0.true

pub returns : goal.returns
returns c = λ p n sh f r h s.
    let e = c.in-Some.entry.now in
    let fa = fields_are p c.args.tables.now n c.args.class c.args.k sh e f h s c.in-Some.ensures.sound in
    let up = subst AreRising (sym c.as_slice-rows.ensures) (rising e.fields fa.fields (start c.args.class) fa.rows-are) in
    let n' = c.fields_before-before.result in
    let b = subst (λ rows. AreBefore rows c.args.left n') c.as_slice-rows.ensures (c.fields_before-before.ensures.before up) in
    let w = c.fields_before-before.ensures.within in
    let ne = c.if-before-eq0.false in
    let some : n' ≡ suc (n' - 1) = omega (arith, ne) in
    let there : n' - 1 < length c.as_slice-rows.result.now = omega (arith, w, some) in
    let row : slice_get c.as_slice-rows.result.now (n' - 1) ≡ Some c.index-rows-before.result =
    slice_get-get_or c.as_slice-rows.result.now (n' - 1) c.index-rows-before.result there ∙ ap Some (sym c.index-rows-before.is) in
    let at : slice_get e.fields (n' - 1) ≡ Some c.index-rows-before.result = subst (λ rows. slice_get rows (n' - 1) ≡ Some c.index-rows-before.result) c.as_slice-rows.ensures row in
    fields_enter p n c.args.class sh e.fields fa c.args.left n' (n' - 1) c.index-rows-before.result _ b some at (ap step.Field c.in-Ok.ensures.1) refl refl
