use Rattle.std.proofs.Common.{arith}
use Rattle.plant_cell.proofs.NumberSteps.{joins, room_joined}
use Rattle.plant_cell.proofs.split.PlantOver+Option+Core+P+View+P+Origin+P+Law+P.join_pass.Goals as goal

pub join_seat-requires : goal.join_seat-requires
join_seat-requires g c =
    let words = c.args.self.now.counts.0 in
    (c.requires.plant.0, c.requires.plant.1, c.requires.other.slots, omega arith, joins _ _ _ _ _ _)

pub push_all-requires : goal.push_all-requires
push_all-requires g c =
    let r = room_joined g.P.Controlled.meaning _ _ _ _ _ _ _ _ _ c.requires.rest c.requires.other c.join_seat.ensures.2 c.look.ensures.told c.args.self.now.few in
    let a = c.args.pass.now.numbers.ok in
    let b = c.args.pass.now.room in
    let e = c.as_slice.ensures in
    omega (arith, r, a, b, e)
