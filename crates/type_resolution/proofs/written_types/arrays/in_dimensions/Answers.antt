use Rattle.type_resolution.proofs.written_types.ArrayLaws.{dimensions_next}
use Rattle.type_resolution.proofs.written_types.arrays.in_dimensions.Goals as goal

pub dimensions-preserved : goal.dimensions-preserved
dimensions-preserved c =
    dimensions_next c.args.s.now c.args.bounds.now c.args.of c.dimensions.kind c.in_ok-kind.kind c.dimensions.left.now c.in-Some.before.now c.in-Some.dimension.now c.in-Some.ensures.cases.0 c.in_ok-kind.ensures c.dimensions.invariant
