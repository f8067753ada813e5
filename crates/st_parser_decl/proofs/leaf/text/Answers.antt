use Rattle.std.proofs.Common.{refl}
use Rattle.st_parser_decl.proofs.Steps as r
use Rattle.st_parser_decl.proofs.leaf.text.Goals as goal

pub returns-in_ok-take_text-clause-ok : goal.returns-in_ok-take_text-clause-ok
returns-in_ok-take_text-clause-ok c = r.parses_text c.args.terminal c.in_ok-take_text.field-0 _ _ (c.if-is_next.ensures.yes refl) c.in_ok-take_text.ensures.ok

pub returns-else-is_next-clause-err : goal.returns-else-is_next-clause-err
returns-else-is_next-clause-err c = rw c.left.ensures (r.sign_fails c.args.terminal c.args.tokens.now (c.if-is_next.ensures.not refl))
