use Rattle.st_parser_stmt.specs.Private.Promises.{for_const, for_word}
use Rattle.std.proofs.lemmas.Result.{err_from_is_err_and}
use Rattle.std.proofs.Common.{refl}
use Rattle.st_parser_stmt.proofs.Rules as r
use Rattle.st_parser_stmt.proofs.label.named.Goals as goal

pub take_text-requires : goal.take_text-requires
take_text-requires c = r.some-next _ _ c.requires

pub returns-in_err-word-clause-err : goal.returns-in_err-word-clause-err
returns-in_err-word-clause-err c =
    let p = err_from_is_err_and c.from_residual-in_err-word.result c.from_residual-in_err-word.ensures.1 in
    rw (p.1, p.2) (r.fails-after for_const for_word c.args.tokens.now c.eat.new.tokens _ (r.passes-const_hash _ _ _ _ c.requires c.in_ok-text.ensures.ok (c.if-eat.ensures.yes refl)) c.in_err-word.ensures.err)

pub returns-in_err-word-2-clause-err : goal.returns-in_err-word-2-clause-err
returns-in_err-word-2-clause-err c =
    let p = err_from_is_err_and c.from_residual-in_err-word-2.result c.from_residual-in_err-word-2.ensures.1 in
    rw (p.1, p.2) (r.fails-after for_const for_word c.args.tokens.now c.eat-else-eat.new.tokens _ (r.passes-const_dot _ _ _ _ c.requires (rw (← c.if-eat.ensures.no refl) at c.in_ok-text.ensures.ok) (c.if-eat-2.ensures.yes refl)) c.in_err-word-2.ensures.err)

pub returns-in_ok-word-clause-ok : goal.returns-in_ok-word-clause-ok
returns-in_ok-word-clause-ok c = r.reads-const_enumerator _ _ _ _ _ _ _ _ c.line-line.ensures c.requires c.in_ok-text.ensures.ok (c.if-eat.ensures.yes refl) c.line-later.ensures c.in_ok-word.ensures.ok

pub returns-in_ok-word-2-clause-ok : goal.returns-in_ok-word-2-clause-ok
returns-in_ok-word-2-clause-ok c = r.reads-const_field _ _ _ _ _ _ _ _ c.line-line.ensures c.requires (rw (← c.if-eat.ensures.no refl) at c.in_ok-text.ensures.ok) (c.if-eat-2.ensures.yes refl) c.line-later-then-eat-2.ensures c.in_ok-word-2.ensures.ok

pub returns-else-eat-2-clause-ok : goal.returns-else-eat-2-clause-ok
returns-else-eat-2-clause-ok c = rw (c.if-eat-2.ensures.no refl, c.if-eat.ensures.no refl) (r.reads-const_name _ _ _ _ c.line-line.ensures c.requires c.in_ok-text.ensures.ok (c.if-eat.ensures.not refl) (rw (c.if-eat.ensures.no refl) at (c.if-eat-2.ensures.not refl)))
