use Rattle.std.proofs.Common.{◌<◌, ◌-◌, length, take, drop, arith, length-drop, length-take}
use Rattle.std.proofs.lemmas.Grind.{common_steps}
use Rattle.plc_io.proofs.Pieces.{taken_next}
use Rattle.plc_io.proofs.writing.write_all.Goals as goal

pub loop-sent-preserved : goal.loop-sent-preserved
loop-sent-preserved g c =
    let some : 0 < length (take (length c.args.bytes.now - c.loop-sent.sent) (drop c.loop-sent.sent c.args.bytes.now)) = simp (length-take, length-drop) (omega arith) in
    let wrote = c.in-Bytes.ensures.bytes some in
    record {
      in_range = grind (arith, common_steps);
      taken = taken_next _ _ _ _ _ _ c.loop-sent.invariant.taken wrote.2;
      later = omega arith;
    }
