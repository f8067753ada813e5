use Rattle.std.proofs.Common.{◌≡◌, ◌++◌, map, drop}
use Rattle.declared_graph.specs.Private.Needed.{is_first_of}
use Rattle.declared_graph.proofs.needed.first_flags.Given as goal

abbrev pub invariant-loop-item : goal.invariant-loop-item
invariant-loop-item l = l.flags.items ++ map is_first_of (drop l.item-index l.list) ≡ map is_first_of l.list
