use Rattle.std.proofs.Common.{refl}
use Rattle.std.proofs.lemmas.Result.{err_from_is_err_and}
use Rattle.st_tree.specs.declared.terminal.Terminal.TheVariants as x
use Rattle.st_parser_stmt.specs.Private.Numbers as n
use Rattle.st_parser_decl.specs.Private.Form.{starts}
use Rattle.st_parser_decl.specs.Private.Rules as w
use Rattle.st_parser_decl.proofs.Steps as r
use Rattle.st_parser_decl.proofs.type_decl.type_body.Goals as goal

pub returns-in_err-names-clause-err : goal.returns-in_err-names-clause-err
unfolding w.type_body w.enumeration n.same_terminal n.number
returns-in_err-names-clause-err c = let p = err_from_is_err_and c.from_residual.result c.from_residual.ensures.1 in rw (p.1, p.2) (r.first_fails refl (r.begins w.enumeration x.Open _ refl (c.is_next.ensures.yes c.if-is_next.true)) c.in_err-names.ensures.err)

pub returns-then-is_next-clause-ok : goal.returns-then-is_next-clause-ok
unfolding w.type_body w.enumeration n.same_terminal n.number
returns-then-is_next-clause-ok c = r.parses_first refl (r.begins w.enumeration x.Open _ refl (c.is_next.ensures.yes c.if-is_next.true)) c.in_ok-names.ensures.ok

pub returns-in_err-fields-clause-err : goal.returns-in_err-fields-clause-err
unfolding w.type_body w.enumeration w.structure n.same_terminal n.number
returns-in_err-fields-clause-err c = let p = err_from_is_err_and c.from_residual-in_err-fields.result c.from_residual-in_err-fields.ensures.1 in rw (p.1, p.2) (r.second_fails (r.first_is (starts w.enumeration) x.Struct _ (c.is_next-2.ensures.yes c.if-is_next-2.true)) (r.first_fails refl (r.begins w.structure x.Struct _ refl (c.is_next-2.ensures.yes c.if-is_next-2.true)) c.in_err-fields.ensures.err))

pub returns-then-is_next-2-clause-ok : goal.returns-then-is_next-2-clause-ok
unfolding w.type_body w.enumeration w.structure n.same_terminal n.number
returns-then-is_next-2-clause-ok c = r.parses_second (r.first_is (starts w.enumeration) x.Struct _ (c.is_next-2.ensures.yes c.if-is_next-2.true)) (r.parses_first refl (r.begins w.structure x.Struct _ refl (c.is_next-2.ensures.yes c.if-is_next-2.true)) c.in_ok-fields.ensures.ok)

pub returns-in_err-other-clause-err : goal.returns-in_err-other-clause-err
unfolding w.type_body w.enumeration w.structure
returns-in_err-other-clause-err c = let p = err_from_is_err_and c.from_residual-in_err-other.result c.from_residual-in_err-other.ensures.1 in rw (p.1, p.2) (r.second_fails (r.begins_not w.enumeration x.Open _ (λ t h. rw h refl) (c.is_next.ensures.not c.if-is_next.false)) (r.second_fails (r.begins_not w.structure x.Struct _ (λ t h. rw h refl) (c.is_next-2.ensures.not c.if-is_next-2.false)) c.in_err-other.ensures.err))

pub returns-clause-ok : goal.returns-clause-ok
unfolding w.type_body w.enumeration w.structure
returns-clause-ok c = r.parses_second (r.begins_not w.enumeration x.Open _ (λ t h. rw h refl) (c.is_next.ensures.not c.if-is_next.false)) (r.parses_second (r.begins_not w.structure x.Struct _ (λ t h. rw h refl) (c.is_next-2.ensures.not c.if-is_next-2.false)) c.in_ok-other.ensures.ok)
