use Rattle.std.proofs.Common.{◌≡◌, ℕ, List, drop}
use Rattle.std.specs.Prelude.{not}
use Rattle.st_rules.specs.Numbered.{any_numbered}
use Rattle.iface_tables.specs.Private.Broken as broken
use Rattle.iface_tables.proofs.broken.leaves_one.Given as goal

-- whether one of the methods left is not met
abbrev pub invariant-loop-method : goal.invariant-loop-method
invariant-loop-method g l =
    any_numbered (λ m (name : List ℕ). not (broken.is_met g.V.PartialEq.eq l.classes l.prototypes l.signatures l.class l.interface m)) l.method (drop l.method l.names)
    ≡ broken.leaves_one g.V.PartialEq.eq l.classes l.prototypes l.signatures l.class l.interface l.names
