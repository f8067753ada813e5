use Rattle.std.proofs.Common.{◌≡◌, ◌++◌, map, take}
use Rattle.check_signatures.specs.unit_signatures.Private.Parameters.{numbered}
use Rattle.check_signatures.proofs.unit_signatures.parameters.add_names.Given as goal

abbrev pub invariant-loop-name : goal.invariant-loop-name
invariant-loop-name l = l.list ≡ l.initial.list ++ map (numbered l.sort l.kind l.worth) (take l.name-index l.names)
