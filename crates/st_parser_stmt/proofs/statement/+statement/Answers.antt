use Rattle.std.proofs.Common.{◌≡◌, ◌∙◌, true, false, refl, sym, arith}
use Rattle.std.proofs.lemmas.Result.{err_from_is_err_and}
use Rattle.st_tree.specs.declared.terminal.Terminal.TheVariants as x
use Rattle.st_tree.specs.Statement as view
use Rattle.st_parser_stmt.specs.Private.Machine.{branches_end}
use Rattle.st_parser_stmt.proofs.Rules as r
use Rattle.st_parser_stmt.proofs.statement.+statement.Goals as goal

pub conditional-returns-in_err-found-clause-err : goal.conditional-returns-in_err-found-clause-err
conditional-returns-in_err-found-clause-err t c =
    let p = err_from_is_err_and c.from_residual.result c.from_residual.ensures.1 in
    rw (p.1, p.2) (r.if-fails c.args.tokens.now c.bump.new.self _ c.requires c.bump.ensures c.in_err-found.ensures.err)

pub conditional-returns-in_err-other-clause-err : goal.conditional-returns-in_err-other-clause-err
conditional-returns-in_err-other-clause-err t c =
    let p = err_from_is_err_and c.from_residual-in_err-other.result c.from_residual-in_err-other.ensures.1 in
    rw (p.1, p.2) (r.if-end-fails _ c.args.tokens.now c.bump.new.self c.branches.new.tokens _ c.requires c.bump.ensures c.in_ok-found.ensures.ok c.in_ok-found.ensures.ends c.in_err-other.ensures.err)

pub conditional-returns-clause-ok : goal.conditional-returns-clause-ok
conditional-returns-clause-ok t c = r.stated _ _ _ _ (view.statement_of-If _ _ _) (r.reads-if _ _ _ _ _ _ _ c.line-line.ensures c.requires c.bump.ensures c.in_ok-found.ensures.ok c.in_ok-found.ensures.ends c.in_ok-other.ensures.ok)

pub branches-loop-found-init : goal.branches-loop-found-init
branches-loop-found-init t c = rw c.new-found.ensures (r.branches-first _)

pub branches-returns-in_err-condition-clause-err : goal.branches-returns-in_err-condition-clause-err
branches-returns-in_err-condition-clause-err t c =
    let p = err_from_is_err_and c.from_residual.result c.from_residual.ensures.1 in
    rw (p.1, p.2) (r.branches-fail c.loop-found.found c.args.tokens.now c.loop-found.tokens _ c.loop-found.invariant c.in_err-condition.ensures.err)

pub branches-returns-in_err-body-clause-err : goal.branches-returns-in_err-body-clause-err
branches-returns-in_err-body-clause-err t c =
    let p = err_from_is_err_and c.from_residual-in_err-body.result c.from_residual-in_err-body.ensures.1 in
    rw (p.1, p.2) (r.branches-body-fail c.loop-found.found _ c.args.tokens.now c.loop-found.tokens c.expression_then.new.tokens _ c.loop-found.invariant c.in_ok-condition.ensures.ok c.in_err-body.ensures.err)

pub branches-loop-found-preserved : goal.branches-loop-found-preserved
branches-loop-found-preserved t c =
    let e : c.into_inner-condition.result ≡ c.in_ok-condition.condition = c.into_inner-condition.ensures in
    rw (c.in_ok-push.ensures.ok, e) (r.branches-pushed c.loop-found.found _ _ _ _ _ c.loop-found.invariant (r.branched _ _ _ _ c.in_ok-condition.ensures.ok c.in_ok-body.ensures.ok c.in_ok-body.ensures.ends) (c.if-eat.ensures.yes refl))

pub branches-returns-else-eat-clause-ok : goal.branches-returns-else-eat-clause-ok
branches-returns-else-eat-clause-ok t c =
    let e : c.into_inner-condition.result ≡ c.in_ok-condition.condition = c.into_inner-condition.ensures in
    rw (c.in_ok-push.ensures.ok, e, c.if-eat.ensures.no refl) (r.branches-read c.loop-found.found _ _ _ _ c.loop-found.invariant (r.branched _ _ _ _ c.in_ok-condition.ensures.ok c.in_ok-body.ensures.ok c.in_ok-body.ensures.ends))

pub branches-returns-else-eat-clause-ends : goal.branches-returns-else-eat-clause-ends
branches-returns-else-eat-clause-ends t c = rw (c.if-eat.ensures.no refl) (c.if-eat.ensures.not refl)

pub otherwise-returns-in_err-body_until-clause-err : goal.otherwise-returns-in_err-body_until-clause-err
otherwise-returns-in_err-body_until-clause-err t c =
    let p = err_from_is_err_and c.from_residual.result c.from_residual.ensures.1 in
    rw (p.1, p.2) (r.else-fails c.args.end c.args.tokens.now c.eat.new.tokens _ (c.if-eat.ensures.yes refl) c.in_err-body_until.ensures.err)

pub otherwise-returns-in_ok-body_until-clause-ok : goal.otherwise-returns-in_ok-body_until-clause-ok
otherwise-returns-in_ok-body_until-clause-ok t c = r.othered _ _ c.args.end _ _ (view.otherwise_of-Else _) (r.reads-else _ c.args.end _ _ _ (c.if-eat.ensures.yes refl) c.in_ok-body_until.ensures.ok)

pub otherwise-returns-in_err-sign-clause-err : goal.otherwise-returns-in_err-sign-clause-err
otherwise-returns-in_err-sign-clause-err t c =
    let p = err_from_is_err_and c.from_residual-in_err-sign.result c.from_residual-in_err-sign.ensures.1 in
    rw (p.1, p.2) (r.otherwise-fails c.args.end c.args.tokens.now _ (c.if-eat.ensures.not refl) (rw (c.if-eat.ensures.no refl) at c.in_err-sign.ensures.err))

pub otherwise-returns-in_ok-sign-clause-ok : goal.otherwise-returns-in_ok-sign-clause-ok
otherwise-returns-in_ok-sign-clause-ok t c = r.othered _ _ c.args.end _ _ view.otherwise_of-Nothing (r.reads-no_else c.args.end _ _ (c.if-eat.ensures.not refl) (rw (c.if-eat.ensures.no refl) at c.in_ok-sign.ensures.ok))

pub selection-returns-in_err-value-clause-err : goal.selection-returns-in_err-value-clause-err
selection-returns-in_err-value-clause-err t c =
    let p = err_from_is_err_and c.from_residual.result c.from_residual.ensures.1 in
    rw (p.1, p.2) (r.case-value-fails c.args.tokens.now c.bump.new.self _ c.requires c.bump.ensures c.in_err-value.ensures.err)

pub selection-returns-in_err-found-clause-err : goal.selection-returns-in_err-found-clause-err
selection-returns-in_err-found-clause-err t c =
    let p = err_from_is_err_and c.from_residual-in_err-found.result c.from_residual-in_err-found.ensures.1 in
    rw (p.1, p.2) (r.case-branches-fail _ c.args.tokens.now c.bump.new.self c.expression_then.new.tokens _ c.requires c.bump.ensures c.in_ok-value.ensures.ok c.in_err-found.ensures.err)

pub selection-returns-in_err-other-clause-err : goal.selection-returns-in_err-other-clause-err
selection-returns-in_err-other-clause-err t c =
    let p = err_from_is_err_and c.from_residual-in_err-other.result c.from_residual-in_err-other.ensures.1 in
    rw (p.1, p.2) (r.case-end-fails _ _ c.args.tokens.now c.bump.new.self c.expression_then.new.tokens c.cases.new.tokens _ c.requires c.bump.ensures c.in_ok-value.ensures.ok c.in_ok-found.ensures.ok c.in_err-other.ensures.err)

pub selection-returns-clause-ok : goal.selection-returns-clause-ok
selection-returns-clause-ok t c =
    let e : c.into_inner-value.result ≡ c.in_ok-value.value = c.into_inner-value.ensures in
    rw e (r.stated _ _ _ _ (view.statement_of-Case _ _ _ _) (r.reads-case _ _ _ _ _ _ _ _ _ c.line-line.ensures c.requires c.bump.ensures c.in_ok-value.ensures.ok c.in_ok-found.ensures.ok c.in_ok-other.ensures.ok))

pub cases-returns-else-is_const-clause-ok : goal.cases-returns-else-is_const-clause-ok
cases-returns-else-is_const-clause-ok t c = rw c.new-found.ensures (r.cases-none _ (sym c.if-is_const.ensures))

pub cases-loop-found-init : goal.cases-loop-found-init
cases-loop-found-init t c = rw c.new-found.ensures (r.cases-first _ (sym c.if-is_const.ensures))

pub cases-returns-in_err-labels-clause-err : goal.cases-returns-in_err-labels-clause-err
cases-returns-in_err-labels-clause-err t c =
    let p = err_from_is_err_and c.from_residual.result c.from_residual.ensures.1 in
    rw (p.1, p.2) (r.cases-fail c.loop-found.found c.args.tokens.now c.loop-found.tokens _ c.loop-found.invariant c.in_err-labels.ensures.err)

pub cases-returns-in_err-body-clause-err : goal.cases-returns-in_err-body-clause-err
cases-returns-in_err-body-clause-err t c =
    let p = err_from_is_err_and c.from_residual-in_err-body.result c.from_residual-in_err-body.ensures.1 in
    rw (p.1, p.2) (r.cases-body-fail c.loop-found.found _ c.args.tokens.now c.loop-found.tokens c.labels.new.tokens _ c.loop-found.invariant c.in_ok-labels.ensures.ok c.in_err-body.ensures.err)

pub cases-loop-found-preserved : goal.cases-loop-found-preserved
cases-loop-found-preserved t c = rw c.in_ok-push.ensures.ok (r.cases-pushed c.loop-found.found _ _ _ _ c.loop-found.invariant (r.cased _ _ _ _ c.in_ok-labels.ensures.ok c.in_ok-body.ensures.ok) (sym c.if-is_label.ensures))

pub cases-returns-else-is_label-clause-ok : goal.cases-returns-else-is_label-clause-ok
cases-returns-else-is_label-clause-ok t c = rw c.in_ok-push.ensures.ok (r.cases-read c.loop-found.found _ _ _ _ c.loop-found.invariant (r.cased _ _ _ _ c.in_ok-labels.ensures.ok c.in_ok-body.ensures.ok) (sym c.if-is_label.ensures) c.in_ok-body.ensures.ends)

pub case_body-returns-then-is_label-clause-ok : goal.case_body-returns-then-is_label-clause-ok
case_body-returns-then-is_label-clause-ok t c = r.case_body-read c.loop-alloc.found _ _ c.loop-alloc.invariant

pub case_body-returns-then-is_label-clause-ends : goal.case_body-returns-then-is_label-clause-ends
case_body-returns-then-is_label-clause-ends t c = λ h. let bad : true ≡ false = c.if-is_label.ensures ∙ h in cc

pub case_body-returns-in_err-one-clause-err : goal.case_body-returns-in_err-one-clause-err
case_body-returns-in_err-one-clause-err t c =
    let p = err_from_is_err_and c.from_residual.result c.from_residual.ensures.1 in
    rw (p.1, p.2) (r.case_body-fails c.loop-alloc.found c.args.tokens.now c.loop-alloc.tokens _ c.loop-alloc.invariant (sym c.loop-alloc-test.ensures) (sym c.if-is_label.ensures) c.in_err-one.ensures.err)

pub case_body-loop-alloc-preserved : goal.case_body-loop-alloc-preserved
case_body-loop-alloc-preserved t c = rw c.in_ok-push.ensures.ok (r.case_body-pushed c.loop-alloc.found _ _ _ _ c.loop-alloc.invariant (sym c.loop-alloc-test.ensures) (sym c.if-is_label.ensures) c.in_ok-one.ensures.ok)

pub case_body-loop-alloc-smaller : goal.case_body-loop-alloc-smaller
case_body-loop-alloc-smaller t c = r.statement-shorter _ _ _ c.in_ok-one.ensures.ok.spelled

pub case_body-returns-clause-ok : goal.case_body-returns-clause-ok
case_body-returns-clause-ok t c = r.case_body-read c.loop-alloc.found _ _ c.loop-alloc.invariant

pub case_body-returns-clause-ends : goal.case_body-returns-clause-ends
case_body-returns-clause-ends t c = λ h. sym c.loop-alloc-test.ensures

pub counting-returns-in_err-control-clause-err : goal.counting-returns-in_err-control-clause-err
counting-returns-in_err-control-clause-err t c =
    let p = err_from_is_err_and c.from_residual.result c.from_residual.ensures.1 in
    rw (p.1, p.2) (r.for-fails c.args.tokens.now c.bump.new.self _ c.requires c.bump.ensures c.in_err-control.ensures.err)

pub counting-returns-in_err-body-clause-err : goal.counting-returns-in_err-body-clause-err
counting-returns-in_err-body-clause-err t c =
    let p = err_from_is_err_and c.from_residual-in_err-body.result c.from_residual-in_err-body.ensures.1 in
    rw (p.1, p.2) (r.for-body-fails _ c.args.tokens.now c.bump.new.self c.heading.new.tokens _ c.requires c.bump.ensures c.in_ok-control.ensures.ok c.in_err-body.ensures.err)

pub counting-returns-clause-ok : goal.counting-returns-clause-ok
counting-returns-clause-ok t c =
    let from : c.into_inner-from.result ≡ c.in_ok-control.control.from = c.into_inner-from.ensures in
    let to : c.into_inner-to.result ≡ c.in_ok-control.control.to = c.into_inner-to.ensures in
    let by : c.into_inner-by.result ≡ c.in_ok-control.control.by = c.into_inner-by.ensures in
    rw (from, to, by) (r.stated _ _ _ _ (view.statement_of-For _ _ _ _ _ _ _) (r.reads-for _ c.in_ok-control.control _ _ _ _ _ c.line-line.ensures c.requires c.bump.ensures c.in_ok-control.ensures.ok c.in_ok-body.ensures.ok))

pub looping-returns-in_err-condition-clause-err : goal.looping-returns-in_err-condition-clause-err
looping-returns-in_err-condition-clause-err t c =
    let p = err_from_is_err_and c.from_residual.result c.from_residual.ensures.1 in
    rw (p.1, p.2) (r.while-fails c.args.tokens.now c.bump.new.self _ c.requires c.bump.ensures c.in_err-condition.ensures.err)

pub looping-returns-in_err-body-clause-err : goal.looping-returns-in_err-body-clause-err
looping-returns-in_err-body-clause-err t c =
    let p = err_from_is_err_and c.from_residual-in_err-body.result c.from_residual-in_err-body.ensures.1 in
    rw (p.1, p.2) (r.while-body-fails _ c.args.tokens.now c.bump.new.self c.expression_then.new.tokens _ c.requires c.bump.ensures c.in_ok-condition.ensures.ok c.in_err-body.ensures.err)

pub looping-returns-clause-ok : goal.looping-returns-clause-ok
looping-returns-clause-ok t c =
    let e : c.into_inner-condition.result ≡ c.in_ok-condition.condition = c.into_inner-condition.ensures in
    rw e (r.stated _ _ _ _ (view.statement_of-While _ _ _) (r.reads-while _ _ _ _ _ _ _ c.line-line.ensures c.requires c.bump.ensures c.in_ok-condition.ensures.ok c.in_ok-body.ensures.ok))

pub repeating-returns-in_err-body-clause-err : goal.repeating-returns-in_err-body-clause-err
repeating-returns-in_err-body-clause-err t c =
    let p = err_from_is_err_and c.from_residual.result c.from_residual.ensures.1 in
    rw (p.1, p.2) (r.repeat-fails c.args.tokens.now c.bump.new.self _ c.requires c.bump.ensures c.in_err-body.ensures.err)

pub repeating-returns-in_err-condition-clause-err : goal.repeating-returns-in_err-condition-clause-err
repeating-returns-in_err-condition-clause-err t c =
    let p = err_from_is_err_and c.from_residual-in_err-condition.result c.from_residual-in_err-condition.ensures.1 in
    rw (p.1, p.2) (r.repeat-until-fails _ c.args.tokens.now c.bump.new.self c.body_until.new.tokens _ c.requires c.bump.ensures c.in_ok-body.ensures.ok c.in_err-condition.ensures.err)

pub repeating-returns-clause-ok : goal.repeating-returns-clause-ok
repeating-returns-clause-ok t c =
    let e : c.into_inner-condition.result ≡ c.in_ok-condition.condition = c.into_inner-condition.ensures in
    rw e (r.stated _ _ _ _ (view.statement_of-Repeat _ _ _) (r.reads-repeat _ _ _ _ _ _ _ c.line-line.ensures c.requires c.bump.ensures c.in_ok-body.ensures.ok c.in_ok-condition.ensures.ok))

pub body-returns-in_err-one-clause-err : goal.body-returns-in_err-one-clause-err
body-returns-in_err-one-clause-err t c =
    let p = err_from_is_err_and c.from_residual.result c.from_residual.ensures.1 in
    rw (p.1, p.2) (r.body-fails c.loop-alloc.found c.args.tokens.now c.loop-alloc.tokens _ c.loop-alloc.invariant (sym c.loop-alloc-test.ensures) c.in_err-one.ensures.err)

pub body-loop-alloc-preserved : goal.body-loop-alloc-preserved
body-loop-alloc-preserved t c = rw c.in_ok-push.ensures.ok (r.body-pushed c.loop-alloc.found _ _ _ _ c.loop-alloc.invariant (sym c.loop-alloc-test.ensures) c.in_ok-one.ensures.ok)

pub body-loop-alloc-smaller : goal.body-loop-alloc-smaller
body-loop-alloc-smaller t c = r.statement-shorter _ _ _ c.in_ok-one.ensures.ok.spelled

pub body-returns-clause-ok : goal.body-returns-clause-ok
body-returns-clause-ok t c = r.body-read c.loop-alloc.found _ _ c.loop-alloc.invariant

pub body_until-returns-in_err-found-clause-err : goal.body_until-returns-in_err-found-clause-err
body_until-returns-in_err-found-clause-err t c =
    let p = err_from_is_err_and c.from_residual.result c.from_residual.ensures.1 in
    rw (p.1, p.2) (r.until-fails c.args.end c.args.tokens.now _ c.in_err-found.ensures.err)

pub body_until-returns-in_err-sign-clause-err : goal.body_until-returns-in_err-sign-clause-err
body_until-returns-in_err-sign-clause-err t c =
    let p = err_from_is_err_and c.from_residual-in_err-sign.result c.from_residual-in_err-sign.ensures.1 in
    rw (p.1, p.2) (r.until-end-fails _ c.args.end c.args.tokens.now c.body.new.tokens _ c.in_ok-found.ensures.ok c.in_ok-found.ensures.ends c.in_err-sign.ensures.err)

pub body_until-returns-clause-ok : goal.body_until-returns-clause-ok
body_until-returns-clause-ok t c = r.reads-until _ c.args.end _ _ _ c.in_ok-found.ensures.ok c.in_ok-found.ensures.ends c.in_ok-sign.ensures.ok

pub branches-body-requires : goal.branches-body-requires
branches-body-requires t c = let a = (c.in_ok-condition.ensures.ok (refl, tt)).shorter in let b = c.loop-found.invariant.shorter in omega arith

pub branches-loop-found-smaller : goal.branches-loop-found-smaller
branches-loop-found-smaller t c =
    let a = (c.in_ok-condition.ensures.ok (refl, tt)).shorter in
    let b = (c.in_ok-body.ensures.ok branches_end).shorter in
    let d = r.sign-less x.Elsif _ _ (c.if-eat.ensures.yes refl) in
    omega arith

pub cases-loop-found-smaller : goal.cases-loop-found-smaller
cases-loop-found-smaller t c =
    let a = r.labels-shorter _ _ _ c.in_ok-labels.ensures.ok.spelled in
    let b = c.in_ok-body.ensures.ok.shorter in
    omega arith

pub looping-body_until-requires : goal.looping-body_until-requires
looping-body_until-requires t c = let z = r.next-shorter x.While c.args.tokens.now c.bump.new.self c.requires c.bump.ensures in let a = (c.in_ok-condition.ensures.ok (refl, tt)).shorter in omega arith

pub selection-cases-requires : goal.selection-cases-requires
selection-cases-requires t c = let z = r.next-shorter x.Case c.args.tokens.now c.bump.new.self c.requires c.bump.ensures in let a = (c.in_ok-value.ensures.ok (refl, tt)).shorter in omega arith

pub selection-otherwise-requires : goal.selection-otherwise-requires
selection-otherwise-requires t c = let z = r.next-shorter x.Case c.args.tokens.now c.bump.new.self c.requires c.bump.ensures in let a = (c.in_ok-value.ensures.ok (refl, tt)).shorter in let b = c.in_ok-found.ensures.ok.shorter in omega arith
