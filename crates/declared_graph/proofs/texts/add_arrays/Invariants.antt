use Rattle.std.proofs.Common.{◌≡◌, ◌++◌, drop}
use Rattle.declared_graph.specs.Private.Names.{all_named, named_in_arrays}
use Rattle.declared_graph.proofs.texts.add_arrays.Given as goal

abbrev pub invariant-loop-array : goal.invariant-loop-array
invariant-loop-array l = all_named l.list.items ++ named_in_arrays (drop l.array-index l.arrays) ≡ all_named l.initial.list.items ++ named_in_arrays l.arrays
