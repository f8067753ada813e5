use Rattle.std.proofs.Common.{◌≡◌, ◌+◌, length}
use Rattle.st_rules.specs.Upward.{upward, base_in}
use Rattle.program_tables.specs.Private.Climb.{own_method}
use Rattle.program_tables.proofs.climb.nearest_method.Given as goal

-- what is left to be searched gives what all gives
abbrev pub invariant-classes : goal.invariant-classes
invariant-classes l = upward (own_method l.methods l.name) (base_in l.bases) l.left l.at ≡ upward (own_method l.methods l.name) (base_in l.bases) (length l.bases + 1) l.class

abbrev pub decreases-classes : goal.decreases-classes
decreases-classes l = l.left
