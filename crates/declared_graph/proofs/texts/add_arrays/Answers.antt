use Rattle.std.proofs.Common.{refl}
use Rattle.std.specs.Prelude.{flat_map}
use Rattle.st_rules.proofs.ListLaws.{left_next, left_end}
use Rattle.declared_graph.specs.Private.Names.{all_named, named_in_bound, named_in_arrays}
use Rattle.declared_graph.proofs.texts.add_arrays.Goals as goal

pub loop-array-preserved : goal.loop-array-preserved
loop-array-preserved c =
    left_next (named_in_arrays) c.args.arrays.now c.loop-array.array-index c.array-item.result (all_named c.loop-array.list.items) _ (flat_map named_in_bound c.array-item.result.bounds) _
    c.loop-array-test.true c.array-item.is refl (rw c.as_slice.ensures at c.in_ok-add_bounds.ensures) c.loop-array.invariant

pub returns : goal.returns
returns c = left_end (named_in_arrays) c.args.arrays.now c.loop-array.array-index (all_named c.loop-array.list.items) _ refl c.loop-array-test.false c.loop-array.invariant
