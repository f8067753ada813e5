use Rattle.std.proofs.Common.{◌≡◌, ◌∷◌, ◌+◌, arith, drop, drop-cons, get_or, sym, ap, ◌∙◌}
use Rattle.std.proofs.lemmas.Grind.{common_steps}
use Rattle.image_moves.proofs.FindFacts.{found_here, found_later}
use Rattle.image_moves.proofs.finding.+finding.Goals as goal

pub find_part-returns-then-offset-part : goal.find_part-returns-then-offset-part
find_part-returns-then-offset-part t c =
    let cons : drop c.loop-part.part-index c.args.parts.now ≡ c.part-item.result ∷ drop (c.loop-part.part-index + 1) c.args.parts.now = grind (arith, common_steps) in
    found_here c.args.parts.now (drop (c.loop-part.part-index + 1) c.args.parts.now) (drop c.loop-part.part-index c.args.parts.now) c.part-item.result c.args.offset c.saturating_sub.result c.find-found.result c.moved.result c.loop-part.invariant cons c.if-offset-part.true c.saturating_sub.ensures c.find-found.ensures c.moved.ensures

pub find_part-loop-part-preserved : goal.find_part-loop-part-preserved
find_part-loop-part-preserved t c =
    let cons : drop c.loop-part.part-index c.args.parts.now ≡ c.part-item.result ∷ drop (c.loop-part.part-index + 1) c.args.parts.now = grind (arith, common_steps) in
    found_later c.args.parts.now (drop (c.loop-part.part-index + 1) c.args.parts.now) (drop c.loop-part.part-index c.args.parts.now) c.part-item.result c.args.offset c.loop-part.invariant cons c.if-offset-part.false
