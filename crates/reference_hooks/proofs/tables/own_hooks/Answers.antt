use Rattle.std.proofs.Common.{arith}
use Rattle.reference_hooks.specs.Private.Hooks.{when_of}
use Rattle.reference_hooks.proofs.HookLaws.{own_all}
use Rattle.reference_hooks.proofs.tables.own_hooks.Goals as goal

pub returns : goal.returns
returns c =
    let e = c.len-c-end.ensures in
    let h = c.loop-c-test.false in
    own_all (when_of c.args.when) c.args.program.now c.loop-c.c c.loop-c.ids.items (omega (arith, e, h)) c.loop-c.invariant
