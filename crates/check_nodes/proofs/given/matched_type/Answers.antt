use Rattle.std.proofs.Common.{ap, sym, ◌∙◌}
use Rattle.st_rules.specs.Calls.{matched_type}
use Rattle.check_nodes.specs.Slots.{lent}
use Rattle.check_nodes.proofs.given.matched_type.Goals as goal

pub returns-in_ok-t-in-Some : goal.returns-in_ok-t-in-Some
unfolding matched_type
returns-in_ok-t-in-Some c = c.in_ok-t-in-Some.ensures ∙ ap (λ m. matched_type (lent m)) (sym c.in-Some.is)

pub returns-in-None : goal.returns-in-None
unfolding matched_type
returns-in-None c = ap (λ m. matched_type (lent m)) (sym c.in-None.is)
