use Rattle.std.proofs.Common.{refl, arith}
use Rattle.std.specs.Map.{keys_of}
use Rattle.std.proofs.lemmas.Option.{slice_get_read}
use Rattle.plant_core.proofs.play_order.Lanes.{naming_next, naming_ended}
use Rattle.plant_core.proofs.play_order.naming.lane_numbers.Goals as goal

pub loop-play-preserved : goal.loop-play-preserved
loop-play-preserved c =
    naming_next (keys_of c.loop-play.names) (keys_of c.lane_number.new.names) c.args.plays.now c.loop-play.play-index _ c.in_ok-lane.lane c.loop-play.lanes.items c.push-in-loop-play.new.self.items c.loop-play.invariant
    (slice_get_read c.args.plays.now _ c.loop-play.play-index _ refl c.loop-play-test.true c.play-item.is) c.in_ok-lane.ensures.grows c.in_ok-lane.ensures.lane c.in_ok-push-2.ensures.items

pub returns : goal.returns
returns c =
    let a = c.loop-play-test.false in
    let b = c.loop-play.auto.play-index-end in
    naming_ended (keys_of c.loop-play.names) c.args.plays.now c.loop-play.play-index c.loop-play.lanes.items c.loop-play.invariant (omega (arith, a, b))
