use Rattle.std.proofs.lemmas.Result.{err_from_is_err_and}
use Rattle.std.proofs.Common.{◌≡◌, Some, refl}
use Rattle.st_tree.specs.declared.terminal.Terminal.TheVariants as x
use Rattle.st_parser_expr.specs.Private.Promises.{next_terminal}
use Rattle.st_parser_stmt.proofs.Rules as r
use Rattle.st_parser_stmt.proofs.label.constant.Goals as goal

pub returns-in_ok-take_text-in-Some-Int-clause-ok : goal.returns-in_ok-take_text-in-Some-Int-clause-ok
returns-in_ok-take_text-in-Some-Int-clause-ok c =
    let next : next_terminal c.args.tokens.now ≡ Some x.Int = cc in
    r.reads-const_int _ _ _ _ c.line-line.ensures next c.in_ok-take_text-in-Some-Int.ensures.ok

pub take_text-requires-then-is_next : goal.take_text-requires-then-is_next
take_text-requires-then-is_next c = r.some-next _ _ (c.if-is_next.ensures.yes refl)

pub returns-in_ok-take_text-in-Some-Minus-clause-ok : goal.returns-in_ok-take_text-in-Some-Minus-clause-ok
returns-in_ok-take_text-in-Some-Minus-clause-ok c =
    let next : next_terminal c.args.tokens.now ≡ Some x.Minus = cc in
    r.reads-const_minus _ _ _ _ _ c.line-line.ensures next c.bump.ensures (c.if-is_next.ensures.yes refl) c.in_ok-take_text-in-Some-Minus.ensures.ok

pub returns-else-is_next-clause-err : goal.returns-else-is_next-clause-err
returns-else-is_next-clause-err c =
    let next : next_terminal c.args.tokens.now ≡ Some x.Minus = cc in
    rw c.left.ensures (r.const_minus-fails c.args.tokens.now c.bump.new.self next c.bump.ensures (c.if-is_next.ensures.not refl))

pub returns-in_err-sign-in-Some-Kind-clause-err : goal.returns-in_err-sign-in-Some-Kind-clause-err
returns-in_err-sign-in-Some-Kind-clause-err c =
    let next : next_terminal c.args.tokens.now ≡ Some (x.Kind c.in-Some-Kind.kind) = cc in
    let p = err_from_is_err_and c.from_residual-in_err-sign-in-Some-Kind.result c.from_residual-in_err-sign-in-Some-Kind.ensures.1 in
    rw (p.1, p.2) (r.const_kind-fails c.in-Some-Kind.kind c.args.tokens.now c.bump-in-Some-Kind.new.self _ next c.bump-in-Some-Kind.ensures c.in_err-sign-in-Some-Kind.ensures.err)

pub returns-in_err-literal-in-Some-Kind-clause-err : goal.returns-in_err-literal-in-Some-Kind-clause-err
returns-in_err-literal-in-Some-Kind-clause-err c =
    let next : next_terminal c.args.tokens.now ≡ Some (x.Kind c.in-Some-Kind.kind) = cc in
    let p = err_from_is_err_and c.from_residual-in_err-literal-in-Some-Kind.result c.from_residual-in_err-literal-in-Some-Kind.ensures.1 in
    rw (p.1, p.2) (r.const_typed-fails c.in-Some-Kind.kind c.args.tokens.now c.bump-in-Some-Kind.new.self c.sign.new.tokens _ next c.bump-in-Some-Kind.ensures c.in_ok-sign-in-Some-Kind.ensures.ok c.in_err-literal-in-Some-Kind.ensures.err)

pub returns-in_ok-literal-in-Some-Kind-clause-ok : goal.returns-in_ok-literal-in-Some-Kind-clause-ok
returns-in_ok-literal-in-Some-Kind-clause-ok c =
    let next : next_terminal c.args.tokens.now ≡ Some (x.Kind c.in-Some-Kind.kind) = cc in
    r.reads-const_typed _ _ _ _ _ _ _ c.line-line.ensures next c.bump-in-Some-Kind.ensures c.in_ok-sign-in-Some-Kind.ensures.ok c.in_ok-literal-in-Some-Kind.ensures.ok
