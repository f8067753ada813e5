use Rattle.std.proofs.Common.{refl}
use Rattle.global_rules.proofs.RegionLaws.{nothing_made, one_made}
use Rattle.global_rules.proofs.globals.add_region.Goals as goal

pub returns-in_ok-push-in-Some : goal.returns-in_ok-push-in-Some
returns-in_ok-push-in-Some c = one_made _ _ _ _ c.in-Some.is c.in_ok-push-in-Some.ensures.ok

pub returns-in-None : goal.returns-in-None
returns-in-None c = nothing_made _ _ _ c.in-None.is refl
