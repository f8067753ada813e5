use Rattle.std.proofs.Common.{◌≡◌, ◌++◌, drop}
use Rattle.program_tables.specs.Private.Bases.{named_by}
use Rattle.program_tables.proofs.bases.numbers.Given as goal

-- what is found, with what is left, is what all give
abbrev pub invariant-loop-name : goal.invariant-loop-name
invariant-loop-name l = l.made ++ named_by l.places (drop l.name-index l.names) ≡ named_by l.places l.names
