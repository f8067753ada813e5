use Rattle.std.proofs.Common.{arith, ◌∙◌, ap}
use Rattle.plant_cell.proofs.NumberSteps.{splits, rest_left, rest_right, more_than_one}
use Rattle.plant_cell.proofs.split.PlantOver+Option+Core+P+View+P+Origin+P+Law+P.split_pass.Goals as goal

pub split_seat-seat-requires : goal.split_seat-seat-requires
split_seat-seat-requires g c =
    let words = c.args.self.now.counts.0 in
    (c.provide.ensures.plant ∙ c.requires.plant, omega arith, splits _ _ _ _)

pub returns-clause-rest : goal.returns-clause-rest
returns-clause-rest g c = rest_left g.P.Controlled.meaning _ _ _ _ _ _ _ _ c.provide.ensures.rest (more_than_one _ _ _ _ c.in-Ok.ensures.ok) c.pop.ensures.items c.in-Some.is c.split_seat-seat.ensures.2

pub returns-clause-other : goal.returns-clause-other
returns-clause-other g c = (
  c.split_seat-seat.ensures.3 ∙ c.provide.ensures.plant,
  rest_right g.P.Controlled.meaning _ _ _ _ _ _ _ _ _ _ c.provide.ensures.rest c.pop.ensures.items c.in-Some.is c.push_reserved.ensures.items c.in-Ok-with_capacity.ensures.items c.split_seat-seat.ensures.4,
  ap (λ m. m.0.seen) c.split_seat-seat.ensures.4 ∙ c.provide.ensures.seen,
)
