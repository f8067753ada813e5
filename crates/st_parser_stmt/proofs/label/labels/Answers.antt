use Rattle.std.proofs.Common.{refl}
use Rattle.st_parser_stmt.proofs.Rules as r
use Rattle.st_parser_stmt.proofs.label.labels.Goals as goal

pub loop-alloc-preserved : goal.loop-alloc-preserved
loop-alloc-preserved c = rw c.in_ok-push-2.ensures.ok (r.labels-pushed c.loop-alloc.found _ _ _ _ _ c.loop-alloc.invariant (c.loop-alloc-test.ensures.yes refl) c.in_ok-one.ensures.ok)

pub returns-then-eat-clause-ok : goal.returns-then-eat-clause-ok
returns-then-eat-clause-ok c =
    let unchanged = c.loop-alloc-test.ensures.no refl in
    let end = rw unchanged at (c.if-eat.ensures.yes refl) in
    r.labels-read c.loop-alloc.found _ _ _ c.loop-alloc.invariant end
