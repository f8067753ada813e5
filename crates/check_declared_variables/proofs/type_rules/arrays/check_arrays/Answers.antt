use Rattle.std.proofs.Common.{◌≡◌, ◌+◌, ◌-◌, arith}
use Rattle.check_declared_variables.proofs.type_rules.ArrayLaws.{arrays_next, arrays_ended}
use Rattle.check_declared_variables.proofs.type_rules.arrays.check_arrays.Goals as goal

pub arrays-preserved : goal.arrays-preserved
arrays-preserved c =
    let n : c.arrays.i ≡ c.arrays.i - 1 + 1 = omega (arith, c.arrays-test.true) in
    arrays_next c.args.s.now c.in_ok-so_far.so_far c.arrays.so_far _ c.args.arrays.now c.args.inner (c.arrays.i - 1) c.arrays.i _ n (omega (arith, c.arrays-test.true, c.arrays.invariant.within)) c.index-arrays-i.is
    c.in_ok-around.ensures c.in_ok-so_far.ensures c.arrays.invariant

pub returns : goal.returns
returns c = arrays_ended c.args.s.now _ c.args.arrays.now c.args.inner c.arrays.i (omega (arith, c.arrays-test.false)) c.arrays.invariant
