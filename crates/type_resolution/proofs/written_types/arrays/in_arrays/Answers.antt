use Rattle.type_resolution.proofs.written_types.ArrayLaws.{arrays_next}
use Rattle.type_resolution.proofs.written_types.arrays.in_arrays.Goals as goal

pub arrays-preserved : goal.arrays-preserved
arrays-preserved c =
    arrays_next c.args.s.now c.args.arrays.now c.args.of c.arrays.kind c.in_ok-kind.kind c.arrays.left.now c.in-Some.before.now c.in-Some.array.now c.as_slice.result.now c.in-Some.ensures.cases.0 c.as_slice.ensures c.in_ok-kind.ensures
    c.arrays.invariant
