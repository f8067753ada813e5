use Rattle.std.proofs.Common.{arith, sym, ◌∙◌}
use Rattle.type_resolution.proofs.told_locals.LeftLaws.{left_next, left_ended}
use Rattle.type_resolution.proofs.told_locals.rounds.nothing_left.Goals as goal

pub loop-i-preserved : goal.loop-i-preserved
loop-i-preserved c =
    let e = c.if-known-next.false in
    let t = c.loop-i-test.true in
    left_next c.args.known.now c.args.next.now c.loop-i.i c.index-known-i.result c.index-next-i.result t c.index-known-i.is (omega (arith, e, t)) c.index-next-i.is (sym c.is_left.ensures ∙ c.if-is_left.false) c.loop-i.invariant

pub returns : goal.returns
returns c t = let e = c.if-known-next.false in left_ended c.args.known.now c.args.next.now c.loop-i.i (omega (arith, e)) c.loop-i-test.false c.loop-i.invariant
