use Rattle.std.proofs.Common.{refl}
use Rattle.std.proofs.lemmas.Result.{err_from_is_err_and}
use Rattle.st_tree.specs.declared.terminal.Terminal.TheVariants as x
use Rattle.st_parser_stmt.specs.Private.Numbers as n
use Rattle.st_parser_decl.specs.Private.Rules as w
use Rattle.st_parser_decl.proofs.Steps as r
use Rattle.st_parser_decl.proofs.configuration.settings.Goals as goal

pub returns-then-not-is_next-clause-ok : goal.returns-then-not-is_next-clause-ok
unfolding w.settings w.setting w.word
returns-then-not-is_next-clause-ok c = rw c.new.ensures (r.absent (w.list_of w.setting) _ (r.begins_not (w.list_of w.setting) x.Word _ (λ t h. rw h refl) (c.is_next.ensures.not c.if-not-is_next.true)))

pub returns-in_err-found-clause-err : goal.returns-in_err-found-clause-err
unfolding w.settings w.setting w.word n.same_terminal n.number
returns-in_err-found-clause-err c = let p = err_from_is_err_and c.from_residual.result c.from_residual.ensures.1 in rw (p.1, p.2) (r.present_fails (r.begins (w.list_of w.setting) x.Word _ refl (c.is_next.ensures.yes c.if-not-is_next.false)) c.in_err-found.ensures.err)

pub returns-clause-ok : goal.returns-clause-ok
unfolding w.settings w.setting w.word n.same_terminal n.number
returns-clause-ok c = r.present (r.begins (w.list_of w.setting) x.Word _ refl (c.is_next.ensures.yes c.if-not-is_next.false)) c.in_ok-found.ensures.ok
