use Rattle.std.proofs.Common.{◌≡◌}
use Rattle.std.proofs.lemmas.Result.{err_from_is_err_and}
use Rattle.st_parser_decl.specs.Private.Rules as w
use Rattle.st_parser_decl.proofs.SectionSteps as t
use Rattle.st_parser_decl.proofs.Steps as r
use Rattle.st_parser_decl.proofs.section.item.Goals as goal

pub returns-in_err-names-clause-err : goal.returns-in_err-names-clause-err
unfolding w.item
returns-in_err-names-clause-err c = let p = err_from_is_err_and c.from_residual-in_err-names.result c.from_residual-in_err-names.ensures.1 in rw (p.1, p.2) (r.fails_here c.in_err-names.ensures.err)

pub returns-in_err-address-clause-err : goal.returns-in_err-address-clause-err
unfolding w.item
returns-in_err-address-clause-err c = let p = err_from_is_err_and c.from_residual-in_err-address.result c.from_residual-in_err-address.ensures.1 in rw (p.1, p.2) (r.fails_behind c.in_ok-names.ensures.ok (r.fails_here c.in_err-address.ensures.err))

pub returns-in_err-sign-clause-err : goal.returns-in_err-sign-clause-err
unfolding w.item
returns-in_err-sign-clause-err c = let p = err_from_is_err_and c.from_residual-in_err-sign.result c.from_residual-in_err-sign.ensures.1 in rw (p.1, p.2) (r.fails_behind c.in_ok-names.ensures.ok (r.fails_behind c.in_ok-address.ensures.ok (r.fails_here c.in_err-sign.ensures.err)))

pub returns-in_err-kind-clause-err : goal.returns-in_err-kind-clause-err
unfolding w.item
returns-in_err-kind-clause-err c = let p = err_from_is_err_and c.from_residual-in_err-kind.result c.from_residual-in_err-kind.ensures.1 in rw (p.1, p.2) (r.fails_behind c.in_ok-names.ensures.ok (r.fails_behind c.in_ok-address.ensures.ok (r.fails_behind c.in_ok-sign.ensures.ok (r.fails_here c.in_err-kind.ensures.err))))

pub returns-in_err-initial-clause-err : goal.returns-in_err-initial-clause-err
unfolding w.item
returns-in_err-initial-clause-err c = let p = err_from_is_err_and c.from_residual-in_err-initial.result c.from_residual-in_err-initial.ensures.1 in rw (p.1, p.2) (r.fails_behind c.in_ok-names.ensures.ok (r.fails_behind c.in_ok-address.ensures.ok (r.fails_behind c.in_ok-sign.ensures.ok (r.fails_behind c.in_ok-kind.ensures.ok (r.fails_here c.in_err-initial.ensures.err)))))

pub returns-in_err-sign-2-clause-err : goal.returns-in_err-sign-2-clause-err
unfolding w.item
returns-in_err-sign-2-clause-err c = let p = err_from_is_err_and c.from_residual-in_err-sign-2.result c.from_residual-in_err-sign-2.ensures.1 in rw (p.1, p.2) (r.fails_behind c.in_ok-names.ensures.ok (r.fails_behind c.in_ok-address.ensures.ok (r.fails_behind c.in_ok-sign.ensures.ok (r.fails_behind c.in_ok-kind.ensures.ok (r.fails_behind c.in_ok-initial.ensures.ok c.in_err-sign-2.ensures.err)))))

pub returns-clause-ok : goal.returns-clause-ok
unfolding w.item
returns-clause-ok c =
    let held_marks : c.new-marks.result ≡ c.in_ok-marks.marks = c.new-marks.ensures in
    let marks : c.into_inner-marks.result ≡ c.new-marks.result = c.into_inner-marks.ensures in
    let held_address : c.new-address.result ≡ c.in_ok-address.address = c.new-address.ensures in
    let address : c.into_inner-address.result ≡ c.new-address.result = c.into_inner-address.ensures in
    let held_kind : c.new-kind.result ≡ c.in_ok-kind.kind = c.new-kind.ensures in
    let kind : c.into_inner-kind.result ≡ c.new-kind.result = c.into_inner-kind.ensures in
    let held_initial : c.new-initial.result ≡ c.in_ok-initial.initial = c.new-initial.ensures in
    let initial : c.into_inner-initial.result ≡ c.new-initial.result = c.into_inner-initial.ensures in
    rw (marks, held_marks, address, held_address, kind, held_kind, initial, held_initial) (t.parses_marked _ _ c.in_ok-marks.ensures.ok (r.behind c.in_ok-names.ensures.ok (r.behind c.in_ok-address.ensures.ok (r.behind c.in_ok-sign.ensures.ok (r.behind c.in_ok-kind.ensures.ok (r.behind c.in_ok-initial.ensures.ok c.in_ok-sign-2.ensures.ok))))))
