use Rattle.std.proofs.Common.{◌≡◌, ◌++◌, drop}
use Rattle.std.specs.Prelude.{flat_map}
use Rattle.declared_graph.specs.Private.Names.{all_named, named_in_bound}
use Rattle.declared_graph.proofs.texts.add_bounds.Given as goal

abbrev pub invariant-loop-bound : goal.invariant-loop-bound
invariant-loop-bound l = all_named l.list.items ++ flat_map named_in_bound (drop l.bound-index l.bounds) ≡ all_named l.initial.list.items ++ flat_map named_in_bound l.bounds
