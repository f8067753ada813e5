use Rattle.std.proofs.Common.{◌≡◌, ◌++◌, drop, map}
use Rattle.program_tables.specs.Private.Bases.{extended_by}
use Rattle.program_tables.proofs.bases.extended.Given as goal

-- what is found, with what is left, is what all give
abbrev pub invariant-loop-interface : goal.invariant-loop-interface
invariant-loop-interface l = l.all.items ++ map (extended_by l.places) (drop l.interface-index l.interfaces) ≡ map (extended_by l.places) l.interfaces
