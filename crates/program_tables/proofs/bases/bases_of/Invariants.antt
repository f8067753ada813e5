use Rattle.std.proofs.Common.{◌≡◌, ◌++◌, drop, map}
use Rattle.program_tables.specs.Private.Bases.{base_by}
use Rattle.program_tables.proofs.bases.bases_of.Given as goal

-- what is found, with what is left, is what all give
abbrev pub invariant-loop-class : goal.invariant-loop-class
invariant-loop-class l = l.all.items ++ map (base_by l.places) (drop l.class-index l.classes) ≡ map (base_by l.places) l.classes
