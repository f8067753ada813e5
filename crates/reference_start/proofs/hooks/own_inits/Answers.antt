use Rattle.std.proofs.Common.{arith}
use Rattle.reference_start.proofs.HookLaws.{inits_all}
use Rattle.reference_start.proofs.hooks.own_inits.Goals as goal

pub returns : goal.returns
returns c =
    let e = c.len-c-end.ensures in
    let h = c.loop-c-test.false in
    inits_all c.args.program.now c.loop-c.c c.loop-c.ids.items (omega (arith, e, h)) c.loop-c.invariant
