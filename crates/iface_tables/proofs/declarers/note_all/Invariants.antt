use Rattle.std.proofs.Common.{◌≡◌, ℕ, List, ◌++◌, drop}
use Rattle.st_rules.specs.Numbered.{each_numbered}
use Rattle.iface_tables.specs.Private.Declarers.{ids_in, id_if, ids_of}
use Rattle.iface_tables.proofs.declarers.note_all.Given as goal

-- what is noted, and what is left, is the whole
abbrev pub invariant-loop-method : goal.invariant-loop-method
invariant-loop-method l = (q : List ℕ) → ids_in l.table q ++ each_numbered (id_if q l.interface) l.method (drop l.method l.names) ≡ ids_in l.initial.table q ++ ids_of q l.interface l.names
