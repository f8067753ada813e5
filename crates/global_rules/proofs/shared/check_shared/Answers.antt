use Rattle.global_rules.proofs.SharedLaws.{shared_checks}
use Rattle.global_rules.proofs.shared.check_shared.Goals as goal

pub returns : goal.returns
returns c = shared_checks _ _ _ _ _ _ _ c.requires c.in_ok-kind.ensures c.in_ok-found.ensures c.shared_of.ensures
