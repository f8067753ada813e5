use Rattle.std.proofs.Common.{◌≡◌}
use Rattle.std.proofs.lemmas.Result.{err_from_is_err_and}
use Rattle.st_parser_decl.specs.Private.Rules as w
use Rattle.st_parser_decl.proofs.Steps as r
use Rattle.st_parser_decl.proofs.type_decl.field_group.Goals as goal

pub returns-in_err-names-clause-err : goal.returns-in_err-names-clause-err
unfolding w.field_group
returns-in_err-names-clause-err c = let p = err_from_is_err_and c.from_residual.result c.from_residual.ensures.1 in rw (p.1, p.2) (r.fails_here c.in_err-names.ensures.err)

pub returns-in_err-sign-clause-err : goal.returns-in_err-sign-clause-err
unfolding w.field_group
returns-in_err-sign-clause-err c = let p = err_from_is_err_and c.from_residual-in_err-sign.result c.from_residual-in_err-sign.ensures.1 in rw (p.1, p.2) (r.fails_behind c.in_ok-names.ensures.ok (r.fails_here c.in_err-sign.ensures.err))

pub returns-in_err-kind-clause-err : goal.returns-in_err-kind-clause-err
unfolding w.field_group
returns-in_err-kind-clause-err c = let p = err_from_is_err_and c.from_residual-in_err-kind.result c.from_residual-in_err-kind.ensures.1 in rw (p.1, p.2) (r.fails_behind c.in_ok-names.ensures.ok (r.fails_behind c.in_ok-sign.ensures.ok (r.fails_here c.in_err-kind.ensures.err)))

pub returns-in_err-initial-clause-err : goal.returns-in_err-initial-clause-err
unfolding w.field_group
returns-in_err-initial-clause-err c = let p = err_from_is_err_and c.from_residual-in_err-initial.result c.from_residual-in_err-initial.ensures.1 in rw (p.1, p.2) (r.fails_behind c.in_ok-names.ensures.ok (r.fails_behind c.in_ok-sign.ensures.ok (r.fails_behind c.in_ok-kind.ensures.ok (r.fails_here c.in_err-initial.ensures.err))))

pub returns-in_err-sign-2-clause-err : goal.returns-in_err-sign-2-clause-err
unfolding w.field_group
returns-in_err-sign-2-clause-err c = let p = err_from_is_err_and c.from_residual-in_err-sign-2.result c.from_residual-in_err-sign-2.ensures.1 in rw (p.1, p.2) (r.fails_behind c.in_ok-names.ensures.ok (r.fails_behind c.in_ok-sign.ensures.ok (r.fails_behind c.in_ok-kind.ensures.ok (r.fails_behind c.in_ok-initial.ensures.ok c.in_err-sign-2.ensures.err))))

pub returns-clause-ok : goal.returns-clause-ok
unfolding w.field_group
returns-clause-ok c =
    let held_kind : c.new-kind.result ≡ c.in_ok-kind.kind = c.new-kind.ensures in
    let kind : c.into_inner-kind.result ≡ c.new-kind.result = c.into_inner-kind.ensures in
    let held_initial : c.new-initial.result ≡ c.in_ok-initial.initial = c.new-initial.ensures in
    let initial : c.into_inner-initial.result ≡ c.new-initial.result = c.into_inner-initial.ensures in
    rw (kind, held_kind, initial, held_initial) (r.behind c.in_ok-names.ensures.ok (r.behind c.in_ok-sign.ensures.ok (r.behind c.in_ok-kind.ensures.ok (r.behind c.in_ok-initial.ensures.ok c.in_ok-sign-2.ensures.ok))))
