use Rattle.std.proofs.Common.{◌≡◌, ◌∙◌, refl, sym}
use Rattle.std.proofs.lemmas.Result.{err_from_is_err_and}
use Rattle.st_tree.specs.Initial as view
use Rattle.st_parser_stmt.proofs.InitialRules as r
use Rattle.st_parser_stmt.proofs.initial.+initial.Goals as goal

pub array-loop-found-preserved : goal.array-loop-found-preserved
array-loop-found-preserved t c = rw c.in_ok-push.ensures.ok (r.parts-pushed c.loop-found.found c.in_ok-one.one _ _ _ _ c.loop-found.invariant c.in_ok-one.ensures.ok (c.if-eat.ensures.yes refl))

pub array-returns-in_err-one-clause-err : goal.array-returns-in_err-one-clause-err
array-returns-in_err-one-clause-err t c =
    let p = err_from_is_err_and c.from_residual.result c.from_residual.ensures.1 in
    rw (p.1, p.2) (r.parts-fail c.loop-found.found c.args.tokens.now c.bump.new.self c.loop-found.tokens _ c.requires c.bump.ensures c.loop-found.invariant c.in_err-one.ensures.err)

pub array-returns-then-eat-2-clause-ok : goal.array-returns-then-eat-2-clause-ok
array-returns-then-eat-2-clause-ok t c =
    rw c.in_ok-push.ensures.ok (r.valued _ _ _ _ (view.initial_of-Array _ _)
    (r.reads-array c.loop-found.found c.in_ok-one.one _ _ c.bump.new.self _ _ _ c.line-line.ensures c.requires c.bump.ensures c.loop-found.invariant c.in_ok-one.ensures.ok (rw (c.if-eat.ensures.no refl) at (c.if-eat-2.ensures.yes refl))))

pub array-returns-else-eat-2-clause-err : goal.array-returns-else-eat-2-clause-err
array-returns-else-eat-2-clause-err t c =
    rw (c.left.ensures, c.if-eat-2.ensures.no refl, c.if-eat.ensures.no refl)
    (r.parts-end-fails c.loop-found.found c.in_ok-one.one c.args.tokens.now c.bump.new.self c.loop-found.tokens c.part.new.tokens c.requires c.bump.ensures c.loop-found.invariant c.in_ok-one.ensures.ok
    (c.if-eat.ensures.not refl) (rw (c.if-eat.ensures.no refl) at (c.if-eat-2.ensures.not refl)))

pub fields-loop-found-preserved : goal.fields-loop-found-preserved
fields-loop-found-preserved t c = rw c.in_ok-push.ensures.ok (r.fields-pushed c.loop-found.found c.in_ok-one.one _ _ _ _ c.loop-found.invariant c.in_ok-one.ensures.ok (c.if-eat.ensures.yes refl))

pub fields-returns-in_err-one-clause-err : goal.fields-returns-in_err-one-clause-err
fields-returns-in_err-one-clause-err t c =
    let p = err_from_is_err_and c.from_residual.result c.from_residual.ensures.1 in
    rw (p.1, p.2) (r.fields-fail c.loop-found.found c.args.tokens.now c.bump.new.self c.loop-found.tokens _ c.requires c.bump.ensures c.loop-found.invariant c.in_err-one.ensures.err)

pub fields-returns-then-eat-2-clause-ok : goal.fields-returns-then-eat-2-clause-ok
fields-returns-then-eat-2-clause-ok t c =
    rw c.in_ok-push.ensures.ok (r.valued _ _ _ _ (view.initial_of-Fields _ _)
    (r.reads-fields c.loop-found.found c.in_ok-one.one _ _ c.bump.new.self _ _ _ c.line-line.ensures c.requires c.bump.ensures c.loop-found.invariant c.in_ok-one.ensures.ok (rw (c.if-eat.ensures.no refl) at (c.if-eat-2.ensures.yes refl))))

pub fields-returns-else-eat-2-clause-err : goal.fields-returns-else-eat-2-clause-err
fields-returns-else-eat-2-clause-err t c =
    rw (c.left.ensures, c.if-eat-2.ensures.no refl, c.if-eat.ensures.no refl)
    (r.fields-end-fails c.loop-found.found c.in_ok-one.one c.args.tokens.now c.bump.new.self c.loop-found.tokens c.field.new.tokens c.requires c.bump.ensures c.loop-found.invariant c.in_ok-one.ensures.ok
    (c.if-eat.ensures.not refl) (rw (c.if-eat.ensures.no refl) at (c.if-eat-2.ensures.not refl)))

pub field-returns-in_err-sign-clause-err : goal.field-returns-in_err-sign-clause-err
field-returns-in_err-sign-clause-err t c =
    let p = err_from_is_err_and c.from_residual-in_err-sign.result c.from_residual-in_err-sign.ensures.1 in
    rw (p.1, p.2) (r.field-fails-assign _ c.args.tokens.now c.word.new.tokens _ c.in_ok-name.ensures.ok c.in_err-sign.ensures.err)

pub field-returns-in_err-value-clause-err : goal.field-returns-in_err-value-clause-err
field-returns-in_err-value-clause-err t c =
    let p = err_from_is_err_and c.from_residual-in_err-value.result c.from_residual-in_err-value.ensures.1 in
    rw (p.1, p.2) (r.field-fails-value _ c.args.tokens.now c.word.new.tokens c.sign.new.tokens _ c.in_ok-name.ensures.ok c.in_ok-sign.ensures.ok c.in_err-value.ensures.err)

pub field-returns-clause-ok : goal.field-returns-clause-ok
field-returns-clause-ok t c = r.reads-field _ _ _ _ _ _ _ c.line-note.ensures c.in_ok-name.ensures.ok c.in_ok-sign.ensures.ok c.in_ok-value.ensures.ok

pub initial_value-returns-in_err-value-clause-err : goal.initial_value-returns-in_err-value-clause-err
initial_value-returns-in_err-value-clause-err t c =
    let p = err_from_is_err_and c.from_residual.result c.from_residual.ensures.1 in
    rw (p.1, p.2) (r.value-fails c.args.tokens.now _ (sym c.if-is_fields.ensures) (c.if-is_next.ensures.not refl) c.in_err-value.ensures.err)

pub initial_value-returns-clause-ok : goal.initial_value-returns-clause-ok
initial_value-returns-clause-ok t c = r.valued _ _ _ _ (view.initial_of-Value _) (r.reads-value _ _ _ (sym c.if-is_fields.ensures) (c.if-is_next.ensures.not refl) c.in_ok-value.ensures.ok)

pub part-returns-in_err-value-clause-err : goal.part-returns-in_err-value-clause-err
part-returns-in_err-value-clause-err t c =
    let p = err_from_is_err_and c.from_residual-in_err-value.result c.from_residual-in_err-value.ensures.1 in
    rw (p.1, p.2) (r.repeated-fails _ c.args.tokens.now c.take_text.new.self c.bump.new.self _ (sym c.if-is_repetition.ensures) c.in_ok-count.ensures.ok c.bump.ensures c.in_err-value.ensures.err)

pub part-returns-in_err-sign-clause-err : goal.part-returns-in_err-sign-clause-err
part-returns-in_err-sign-clause-err t c =
    let p = err_from_is_err_and c.from_residual-in_err-sign.result c.from_residual-in_err-sign.ensures.1 in
    rw (p.1, p.2) (r.repeated-end-fails _ _ c.args.tokens.now c.take_text.new.self c.bump.new.self c.initial_value.new.tokens _ (sym c.if-is_repetition.ensures) c.in_ok-count.ensures.ok c.bump.ensures c.in_ok-value.ensures.ok c.in_err-sign.ensures.err)

pub part-returns-in_ok-sign-clause-ok : goal.part-returns-in_ok-sign-clause-ok
part-returns-in_ok-sign-clause-ok t c =
    let e : c.into_inner-value.result ≡ c.in_ok-value.value = c.into_inner-value.ensures ∙ c.new-held.ensures in
    rw e
    (r.parted _ _ _ _ (view.part_of-Repeated _ _ _)
    (r.reads-repeated _ _ _ _ _ _ _ _ c.line-line.ensures (sym c.if-is_repetition.ensures) c.in_ok-count.ensures.ok c.bump.ensures c.in_ok-value.ensures.ok c.in_ok-sign.ensures.ok))

pub part-returns-in_err-value-2-clause-err : goal.part-returns-in_err-value-2-clause-err
part-returns-in_err-value-2-clause-err t c =
    let p = err_from_is_err_and c.from_residual-in_err-value-2.result c.from_residual-in_err-value-2.ensures.1 in
    rw (p.1, p.2) (r.one-fails c.args.tokens.now _ (sym c.if-is_repetition.ensures) c.in_err-value-2.ensures.err)

pub part-returns-in_ok-value-2-clause-ok : goal.part-returns-in_ok-value-2-clause-ok
part-returns-in_ok-value-2-clause-ok t c = r.parted _ _ _ _ (view.part_of-One _) (r.reads-one _ _ _ (sym c.if-is_repetition.ensures) c.in_ok-value-2.ensures.ok)
