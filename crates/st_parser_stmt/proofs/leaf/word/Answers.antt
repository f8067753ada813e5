use Rattle.std.proofs.Common.{refl}
use Rattle.st_parser_stmt.proofs.Rules as r
use Rattle.st_parser_stmt.proofs.leaf.word.Goals as goal

pub take_text-requires : goal.take_text-requires
take_text-requires c = r.some-next _ _ (c.if-is_next.ensures.yes refl)

pub returns-in_ok-take_text-clause-ok : goal.returns-in_ok-take_text-clause-ok
returns-in_ok-take_text-clause-ok c = r.reads-word _ _ _ (c.if-is_next.ensures.yes refl) c.in_ok-take_text.ensures.ok

pub returns-else-is_next-clause-err : goal.returns-else-is_next-clause-err
returns-else-is_next-clause-err c = rw c.left.ensures (r.word-fails c.args.tokens.now (c.if-is_next.ensures.not refl))
