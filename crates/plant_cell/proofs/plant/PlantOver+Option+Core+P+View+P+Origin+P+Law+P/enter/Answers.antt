use Rattle.std.proofs.Common.{◌∙◌, ap}
use Rattle.plant_cell.proofs.TurnSteps.{took_out, began}
use Rattle.plant_cell.proofs.PassLaws.{turn_entered, turn_found, keeps_open, keeps_done, keeps_turn, found_mine}
use Rattle.plant_cell.proofs.plant.PlantOver+Option+Core+P+View+P+Origin+P+Law+P.enter.Goals as goal

pub exchange-requires : goal.exchange-requires
exchange-requires g c = (c.take.ensures.table.0 ∙ (c.loop.invariant.2 ∙ c.requires.plant), took_out _ _ _ c.if-take.true c.take.ensures.took)

pub returns-in-Some-exchange-clause-turn : goal.returns-in-Some-exchange-clause-turn
returns-in-Some-exchange-clause-turn g c =
    let b = began _ _ _ _ _ _ _ _ c.requires.rest.pass.start-is c.loop.invariant.3 c.if-take.true c.take.ensures.took c.exchange.ensures.2 c.in-Some-exchange.is c.exchange.ensures.3 in
    turn_entered g.P.Controlled.meaning _ _ _ _ _ _ c.requires.rest b

pub returns-in-Some-exchange-clause-known : goal.returns-in-Some-exchange-clause-known
returns-in-Some-exchange-clause-known g c =
    let b = began _ _ _ _ _ _ _ _ c.requires.rest.pass.start-is c.loop.invariant.3 c.if-take.true c.take.ensures.took c.exchange.ensures.2 c.in-Some-exchange.is c.exchange.ensures.3 in
    ap (λ z. z.0) b.now

pub returns-in-Some-exchange-clause-found : goal.returns-in-Some-exchange-clause-found
returns-in-Some-exchange-clause-found g c =
    let b = began _ _ _ _ _ _ _ _ c.requires.rest.pass.start-is c.loop.invariant.3 c.if-take.true c.take.ensures.took c.exchange.ensures.2 c.in-Some-exchange.is c.exchange.ensures.3 in
    turn_found g.P.Controlled.meaning _ _ _ _ _ _ c.requires.rest b

pub returns-in-Some-exchange-clause-mine : goal.returns-in-Some-exchange-clause-mine
returns-in-Some-exchange-clause-mine g c =
    let b = began _ _ _ _ _ _ _ _ c.requires.rest.pass.start-is c.loop.invariant.3 c.if-take.true c.take.ensures.took c.exchange.ensures.2 c.in-Some-exchange.is c.exchange.ensures.3 in
    found_mine _ _ _ _ (turn_found g.P.Controlled.meaning _ _ _ _ _ _ c.requires.rest b)

pub returns-in-Some-exchange-clause-open : goal.returns-in-Some-exchange-clause-open
returns-in-Some-exchange-clause-open g c =
    let b = began _ _ _ _ _ _ _ _ c.requires.rest.pass.start-is c.loop.invariant.3 c.if-take.true c.take.ensures.took c.exchange.ensures.2 c.in-Some-exchange.is c.exchange.ensures.3 in
    keeps_open g.P.Controlled.meaning g.met.P.Controlled.frames _ _ _ _ c.requires.rest.pass.right (turn_found g.P.Controlled.meaning _ _ _ _ _ _ c.requires.rest b) c.is_lawful.ensures.legal

pub returns-in-Some-exchange-clause-done : goal.returns-in-Some-exchange-clause-done
returns-in-Some-exchange-clause-done g c =
    let b = began _ _ _ _ _ _ _ _ c.requires.rest.pass.start-is c.loop.invariant.3 c.if-take.true c.take.ensures.took c.exchange.ensures.2 c.in-Some-exchange.is c.exchange.ensures.3 in
    keeps_done g.P.Controlled.meaning g.met.P.Controlled.frames _ _ _ _ (turn_found g.P.Controlled.meaning _ _ _ _ _ _ c.requires.rest b) c.is_lawful.ensures.legal

pub returns-in-Some-exchange-clause-change : goal.returns-in-Some-exchange-clause-change
returns-in-Some-exchange-clause-change g c =
    let b = began _ _ _ _ _ _ _ _ c.requires.rest.pass.start-is c.loop.invariant.3 c.if-take.true c.take.ensures.took c.exchange.ensures.2 c.in-Some-exchange.is c.exchange.ensures.3 in
    keeps_turn g.P.Controlled.meaning g.met.P.Controlled.frames _ _ _ _ (turn_found g.P.Controlled.meaning _ _ _ _ _ _ c.requires.rest b) c.is_lawful.ensures.legal
