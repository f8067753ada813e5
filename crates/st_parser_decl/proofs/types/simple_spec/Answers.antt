use Rattle.std.proofs.Common.{rules, ◌≡◌, Some, false, refl}
use Rattle.std.proofs.lemmas.Result.{err_from_is_err_and}
use Rattle.st_tree.specs.declared.terminal.Terminal.TheVariants as x
use Rattle.st_parser_expr.specs.Private.Promises.{next_terminal}
use Rattle.st_parser_decl.specs.Private.Rules as w
use Rattle.st_parser_decl.proofs.Steps as r
use Rattle.st_parser_decl.proofs.types.simple_spec.Goals as goal

pub returns-in-Some-Kind-clause-ok : goal.returns-in-Some-Kind-clause-ok
unfolding w.simple_spec
returns-in-Some-Kind-clause-ok c =
    let next : next_terminal c.args.tokens.now ≡ Some (x.Kind c.in-Some-Kind.kind) = cc in
    r.parses_first refl (r.first_is w.is_kind _ _ next) (r.parses_sign_at _ _ c.line-note.ensures (r.parses_word w.is_kind _ refl _ _ _ refl next c.bump.ensures))

pub returns-in_err-text-in-Some-Word-clause-err : goal.returns-in_err-text-in-Some-Word-clause-err
unfolding w.simple_spec w.word
returns-in_err-text-in-Some-Word-clause-err c =
    let next : next_terminal c.args.tokens.now ≡ Some x.Word = cc in
    let p = err_from_is_err_and c.from_residual.result c.from_residual.ensures.1 in
    rw (p.1, p.2) (r.second_fails (r.first_is w.is_kind x.Word _ next) (r.first_fails refl (r.next_is x.Word _ next) c.in_err-text-in-Some-Word.ensures.err))

pub returns-in_ok-text-in-Some-Word-clause-ok : goal.returns-in_ok-text-in-Some-Word-clause-ok
unfolding w.simple_spec w.word
returns-in_ok-text-in-Some-Word-clause-ok c =
    let next : next_terminal c.args.tokens.now ≡ Some x.Word = cc in
    r.parses_second (r.first_is w.is_kind x.Word _ next) (r.parses_first refl (r.next_is x.Word _ next) (r.parses_text_at x.Word _ _ c.line-note.ensures c.in_ok-text-in-Some-Word.ensures.ok))

pub returns-in_err-spec-in_default-clause-err : goal.returns-in_err-spec-in_default-clause-err
unfolding w.simple_spec w.word
returns-in_err-spec-in_default-clause-err c =
    let free : r.is_type_word (next_terminal c.args.tokens.now) ≡ false = search rules in
    let p = err_from_is_err_and c.from_residual-in_err-spec-in_default.result c.from_residual-in_err-spec-in_default.ensures.1 in
    rw (p.1, p.2) (r.second_fails (r.no_kind c.args.tokens.now free) (r.second_fails (r.no_word c.args.tokens.now free) c.in_err-spec-in_default.ensures.err))

pub returns-in_ok-spec-in_default-clause-ok : goal.returns-in_ok-spec-in_default-clause-ok
unfolding w.simple_spec w.word
returns-in_ok-spec-in_default-clause-ok c =
    let free : r.is_type_word (next_terminal c.args.tokens.now) ≡ false = search rules in
    r.parses_second (r.no_kind c.args.tokens.now free) (r.parses_second (r.no_word c.args.tokens.now free) c.in_ok-spec-in_default.ensures.ok)
