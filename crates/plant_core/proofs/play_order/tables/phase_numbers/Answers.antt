use Rattle.std.proofs.lemmas.List.{take_rest}
use Rattle.plant_core.proofs.play_order.Phases.{numbering_next}
use Rattle.plant_core.proofs.play_order.tables.phase_numbers.Goals as goal

pub loop-play-preserved : goal.loop-play-preserved
loop-play-preserved c =
    numbering_next c.args.phases.now c.loop-play.left.now _ c.phases_behind.result c.loop-play.play c.loop-play.numbers.items c.push.new.self.items c.loop-play.invariant c.phases_behind.ensures.value
    (take_rest c.loop-play.left.now c.phases_behind.result) c.in_ok-push.ensures.items
