use Rattle.std.proofs.Common.{refl}
use Rattle.std.proofs.lemmas.Result.{err_from_is_err_and}
use Rattle.st_tree.specs.declared.terminal.Terminal.TheVariants as x
use Rattle.st_parser_stmt.specs.Private.Numbers as n
use Rattle.st_parser_decl.specs.Private.Rules as w
use Rattle.st_parser_decl.proofs.Steps as r
use Rattle.st_parser_decl.proofs.class.prototypes.Goals as goal

pub returns-in_err-one-clause-err : goal.returns-in_err-one-clause-err
unfolding w.prototype n.same_terminal n.number
returns-in_err-one-clause-err c = let p = err_from_is_err_and c.from_residual.result c.from_residual.ensures.1 in rw (p.1, p.2) (r.each_fails c.loop-alloc.found c.loop-alloc.invariant refl (r.begins w.prototype x.Method _ refl (c.is_next.ensures.yes c.loop-alloc-test.true)) c.in_err-one.ensures.err)

pub loop-alloc-preserved : goal.loop-alloc-preserved
unfolding w.prototype n.same_terminal n.number
loop-alloc-preserved c = rw c.in_ok-push.ensures.ok (r.each_pushed c.loop-alloc.found c.in_ok-one.one c.loop-alloc.invariant refl (r.begins w.prototype x.Method _ refl (c.is_next.ensures.yes c.loop-alloc-test.true)) c.in_ok-one.ensures.ok)

pub loop-alloc-smaller : goal.loop-alloc-smaller
unfolding w.prototype
loop-alloc-smaller c = r.parses_strictly refl c.in_ok-one.ensures.ok

pub loop-alloc-init : goal.loop-alloc-init
loop-alloc-init c = rw c.new-found.ensures (r.each_first _ _ c.args.tokens.now)

pub returns-clause-ok : goal.returns-clause-ok
unfolding w.prototype
returns-clause-ok c = r.each_read c.loop-alloc.found c.loop-alloc.invariant (r.begins_not w.prototype x.Method _ (λ t h. rw h refl) (c.is_next.ensures.not c.loop-alloc-test.false))
