use Rattle.std.proofs.Common.{refl}
use Rattle.st_parser_stmt.proofs.Rules as r
use Rattle.st_parser_stmt.proofs.leaf.sign.Goals as goal

pub bump-requires : goal.bump-requires
bump-requires c = r.some-next _ _ (c.if-is_next.ensures.yes refl)

pub returns-then-is_next-clause-ok : goal.returns-then-is_next-clause-ok
returns-then-is_next-clause-ok c = r.reads-sign _ _ _ (c.if-is_next.ensures.yes refl) c.bump.ensures

pub returns-then-is_next-clause-shorter : goal.returns-then-is_next-clause-shorter
returns-then-is_next-clause-shorter c = r.next-shorter _ _ _ (c.if-is_next.ensures.yes refl) c.bump.ensures

pub returns-else-is_next-clause-err : goal.returns-else-is_next-clause-err
returns-else-is_next-clause-err c = rw c.left.ensures (r.sign-fails c.args.terminal c.args.tokens.now (c.if-is_next.ensures.not refl))
