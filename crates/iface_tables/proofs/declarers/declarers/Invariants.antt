use Rattle.std.proofs.Common.{◌≡◌, ℕ, List, ◌++◌, drop}
use Rattle.st_rules.specs.Numbered.{each_numbered}
use Rattle.iface_tables.specs.Private.Declarers.{ids_in, ids_of, ids_named}
use Rattle.iface_tables.proofs.declarers.declarers.Given as goal

-- what is noted, and what is left, is the whole
abbrev pub invariant-loop-interface : goal.invariant-loop-interface
invariant-loop-interface l = (q : List ℕ) → ids_in l.table q ++ each_numbered (ids_of q) l.interface (drop l.interface l.prototypes) ≡ ids_named l.prototypes q
