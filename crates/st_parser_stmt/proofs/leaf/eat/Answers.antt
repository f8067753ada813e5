use Rattle.std.proofs.Common.{refl}
use Rattle.st_parser_expr.proofs.Rules.{sign_at}
use Rattle.st_parser_stmt.proofs.Rules as r
use Rattle.st_parser_stmt.proofs.leaf.eat.Goals as goal

pub bump-requires : goal.bump-requires
bump-requires c = r.some-next _ _ (c.if-is_next.ensures.yes refl)

pub returns-then-is_next-clause-yes : goal.returns-then-is_next-clause-yes
returns-then-is_next-clause-yes c = λ e. sign_at _ _ _ (c.if-is_next.ensures.yes refl) c.bump.ensures

pub returns-else-is_next-clause-not : goal.returns-else-is_next-clause-not
returns-else-is_next-clause-not c = λ e. c.if-is_next.ensures.not refl
