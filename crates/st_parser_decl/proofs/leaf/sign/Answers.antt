use Rattle.std.proofs.Common.{refl}
use Rattle.st_parser_decl.proofs.Steps as r
use Rattle.st_parser_decl.proofs.leaf.sign.Goals as goal

pub returns-then-is_next-clause-ok : goal.returns-then-is_next-clause-ok
returns-then-is_next-clause-ok c = r.parses_sign c.args.terminal _ _ (c.if-is_next.ensures.yes refl) c.bump.ensures

pub returns-else-is_next-clause-err : goal.returns-else-is_next-clause-err
returns-else-is_next-clause-err c = rw c.left.ensures (r.sign_fails c.args.terminal c.args.tokens.now (c.if-is_next.ensures.not refl))
