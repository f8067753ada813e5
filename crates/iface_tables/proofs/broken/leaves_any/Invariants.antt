use Rattle.std.proofs.Common.{◌≡◌, drop}
use Rattle.st_rules.specs.Numbered.{any_numbered}
use Rattle.iface_tables.specs.Private.Broken as broken
use Rattle.iface_tables.proofs.broken.leaves_any.Given as goal

-- whether one of the interfaces left has a method that is not met
abbrev pub invariant-loop-interface : goal.invariant-loop-interface
invariant-loop-interface g l =
    any_numbered (broken.leaves_interface g.V.PartialEq.eq l.classes l.prototypes l.signatures l.class) l.interface (drop l.interface l.prototypes)
    ≡ broken.leaves_any g.V.PartialEq.eq l.classes l.prototypes l.signatures l.class
