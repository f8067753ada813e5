use Rattle.std.proofs.Common.{ap}
use Rattle.global_rules.proofs.SharedLaws.{shared_parts}
use Rattle.global_rules.proofs.shared.shared_of.Goals as goal

pub returns : goal.returns
returns c = shared_parts _ _ _ _ _ _ _ _ _ c.into_kind.ensures c.earlier.ensures c.sizes.ensures (ap (λ u. u.decls) c.graph.ensures) c.item_line.ensures c.too_deep-deep.ensures
