use Rattle.std.proofs.Common.{◌≡◌, ◌+◌, length}
use Rattle.st_rules.specs.Upward.{base_in}
use Rattle.program_tables.specs.Private.Climb.{any_upward, implements_itself}
use Rattle.program_tables.proofs.climb.implements.Given as goal

-- what is left to be searched gives what all gives
abbrev pub invariant-classes : goal.invariant-classes
invariant-classes l =
    any_upward (implements_itself l.implemented l.reach l.interface) (base_in l.bases) l.left l.at ≡ any_upward (implements_itself l.implemented l.reach l.interface) (base_in l.bases) (length l.bases + 1) l.class

abbrev pub decreases-classes : goal.decreases-classes
decreases-classes l = l.left
