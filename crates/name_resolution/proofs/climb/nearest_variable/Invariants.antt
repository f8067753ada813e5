use Rattle.std.proofs.Common.{◌≡◌, ◌+◌, Bool, length}
use Rattle.st_rules.specs.declared.names.DeclaredVariable.{DeclaredVariable}
use Rattle.st_rules.specs.Upward.{upward, base_in}
use Rattle.name_resolution.specs.Private.Climb.{AreTablesOf, own_with_class}
use Rattle.name_resolution.proofs.climb.nearest_variable.Given as goal

-- what is left to be searched gives what all gives
abbrev pub invariant-classes : goal.invariant-classes
invariant-classes l = (test : DeclaredVariable → Bool) → AreTablesOf test l.tables l.classes
    → upward (own_with_class test l.classes l.name) (base_in l.bases) l.left l.at ≡ upward (own_with_class test l.classes l.name) (base_in l.bases) (length l.bases + 1) l.class

abbrev pub decreases-classes : goal.decreases-classes
decreases-classes l = l.left
