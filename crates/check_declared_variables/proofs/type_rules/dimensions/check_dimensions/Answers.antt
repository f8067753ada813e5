use Rattle.std.proofs.Common.{◌≡◌, ◌+◌, ◌-◌, arith}
use Rattle.check_declared_variables.proofs.type_rules.DimensionLaws.{dimensions_next, dimensions_ended}
use Rattle.check_declared_variables.proofs.type_rules.dimensions.check_dimensions.Goals as goal

pub dimensions-preserved : goal.dimensions-preserved
dimensions-preserved c =
    let n : c.dimensions.i ≡ c.dimensions.i - 1 + 1 = omega (arith, c.dimensions-test.true) in
    dimensions_next c.args.s.now c.in_ok-so_far.so_far c.dimensions.so_far _ c.args.bounds.now c.args.inner (c.dimensions.i - 1) c.dimensions.i _ n (omega (arith, c.dimensions-test.true, c.dimensions.invariant.within)) c.index-bounds-i.is
    c.in_ok-dimension.ensures c.in_ok-so_far.ensures c.dimensions.invariant

pub returns : goal.returns
returns c = dimensions_ended c.args.s.now _ c.args.bounds.now c.args.inner c.dimensions.i (omega (arith, c.dimensions-test.false)) c.dimensions.invariant
