use Rattle.std.proofs.Common.{arith, ◌∙◌, ap}
use Rattle.plant_cell.proofs.TurnSteps.{count_back, release_back, left_turn}
use Rattle.plant_cell.proofs.PassLaws.{own_number, rest_behind}
use Rattle.plant_cell.proofs.plant.PlantOver+Option+Core+P+View+P+Origin+P+Law+P.leave.Goals as goal

pub store-requires : goal.store-requires
store-requires g c =
    let words = c.args.self.now.counts.0 in
    let moved = c.exchange.ensures in
    let t = c.requires.turn in
    (moved.0 ∙ c.requires.plant, omega (arith, words), count_back _ _ _ _ _ _ _ _ _ _ moved.3 t.slots t.turn (own_number g.P.Controlled.meaning _ _ _ _ t.pass) c.requires.grown c.count-events.ensures)

pub store-requires-2 : goal.store-requires-2
store-requires-2 g c =
    let words = c.args.self.now.counts.0 in
    let moved = c.exchange.ensures in
    let counted = c.store.ensures in
    let t = c.requires.turn in
    (counted.0 ∙ (moved.0 ∙ c.requires.plant), omega (arith, words), release_back _ _ _ _ _ _ _ _ _ _ moved.3 t.slots t.pass.start-is c.requires.grown counted.2)

pub returns-clause-rest : goal.returns-clause-rest
returns-clause-rest g c = rest_behind g.P.Controlled.meaning _ _ _ _ _ _ c.requires.turn (left_turn _ _ _ _ _ c.exchange.ensures.3 c.requires.turn.slots c.store.ensures.2 c.store-2.ensures.2)

pub returns-clause-known : goal.returns-clause-known
returns-clause-known g c = ap (λ z. z.0) (left_turn _ _ _ _ _ c.exchange.ensures.3 c.requires.turn.slots c.store.ensures.2 c.store-2.ensures.2)
