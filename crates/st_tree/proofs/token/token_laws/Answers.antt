use Rattle.st_tree.proofs.TokenLaws.{one_tokens, one_bad, never_both}
use Rattle.st_tree.proofs.token.token_laws.Goals as goal

pub returns-clause-one_tokens : goal.returns-clause-one_tokens
returns-clause-one_tokens c = one_tokens

pub returns-clause-one_bad : goal.returns-clause-one_bad
returns-clause-one_bad c = one_bad

pub returns-clause-never_both : goal.returns-clause-never_both
returns-clause-never_both c = never_both
