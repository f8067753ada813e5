use Rattle.std.proofs.Common.{◌≡◌, ◌++◌, map, drop}
use Rattle.declared_graph.specs.Private.Inner.{is_first_name}
use Rattle.declared_graph.proofs.inner.first_flags.Given as goal

abbrev pub invariant-loop-name : goal.invariant-loop-name
invariant-loop-name l = l.flags.items ++ map is_first_name (drop l.name-index l.names) ≡ map is_first_name l.names
