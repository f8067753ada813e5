use Rattle.std.proofs.Common.{◌≡◌, ℕ, ◌+◌, ◌++◌, List, [], length, Some}
use Rattle.st_rules.specs.Chains.{is_among, climb}
use Rattle.st_rules.specs.Upward.{base_in}
use Rattle.name_resolution.specs.Private.Chain.{is_held}
use Rattle.name_resolution.proofs.ChainLaws.{ClimbsOn}
use Rattle.name_resolution.proofs.chain.chain_of.Given as goal

abbrev pub invariant-classes : goal.invariant-classes
invariant-classes l = ClimbsOn l.bases l.class l.held l.chain.items l.left l.next

abbrev pub decreases-classes : goal.decreases-classes
decreases-classes l = l.left
