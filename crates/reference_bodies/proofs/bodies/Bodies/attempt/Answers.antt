use Rattle.std.proofs.Common.{refl, sym, ap, ◌∙◌}
use Rattle.std.proofs.lemmas.Result.{err_from_is_err_and}
use Rattle.st_tree.specs.Expression.{expression_of, place_of}
use Rattle.st_meaning.specs.Enter.{enter}
use Rattle.st_values.specs.View.{program_of}
use Rattle.run_state.specs.State.{spot_of, state_of}
use Rattle.value_trees.specs.Value.{value_of}
use Rattle.reference_bodies.specs.Flow.{flow_of}
use Rattle.reference_values.proofs.LoopSteps.{stopped}
use Rattle.reference_bodies.proofs.EffectSteps.{unread, attempt_placed, attempt_put, attempt_ended}
use Rattle.reference_bodies.proofs.bodies.Bodies.attempt.Goals as goal

pub returns-in_err-spot-clause-run : goal.returns-in_err-spot-clause-run
returns-in_err-spot-clause-run g c =
    let p = err_from_is_err_and c.from_residual-in_err-spot.result c.from_residual-in_err-spot.ensures.1 in
    rw (p.1, p.2) (stopped spot_of flow_of c.in_err-spot.field-0.0 _ _ _ _ (state_of c.place.new.m) (attempt_placed (program_of c.args.self.now.walk.tables.now) (enter (program_of c.args.self.now.walk.tables.now) c.args.self.now.walk.room) c.args.line c.args.line c.args.a.now (place_of c.args.place.now).0 (place_of c.args.place.now).1 (expression_of c.args.e.now) (state_of c.args.m.now) (state_of c.spend.new.m) (state_of c.value.new.m) (value_of c.in_ok-v.v) c.in_ok-spend.ensures.run c.in_ok-v.ensures.run (value_of c.in_ok-w.w) c.in_ok-w.ensures) refl c.in_err-spot.ensures.run)

pub returns-in_err-put-clause-run : goal.returns-in_err-put-clause-run
returns-in_err-put-clause-run g c =
    let p = err_from_is_err_and c.from_residual-in_err-put.result c.from_residual-in_err-put.ensures.1 in
    rw (p.1, p.2) (unread flow_of c.in_err-put.field-0.0 _ _ _ (state_of c.put.new.m) (attempt_put (program_of c.args.self.now.walk.tables.now) (enter (program_of c.args.self.now.walk.tables.now) c.args.self.now.walk.room) c.args.line c.args.line c.args.a.now (place_of c.args.place.now).0 (place_of c.args.place.now).1 (expression_of c.args.e.now) (state_of c.args.m.now) (state_of c.spend.new.m) (state_of c.value.new.m) (value_of c.in_ok-v.v) c.in_ok-spend.ensures.run c.in_ok-v.ensures.run (value_of c.in_ok-w.w) c.in_ok-w.ensures (spot_of c.in_ok-spot.spot) (state_of c.place.new.m) c.in_ok-spot.ensures.run) c.in_err-put.ensures.run)

pub returns-clause-run : goal.returns-clause-run
returns-clause-run g c = attempt_ended (program_of c.args.self.now.walk.tables.now) (enter (program_of c.args.self.now.walk.tables.now) c.args.self.now.walk.room) c.args.line c.args.line c.args.a.now (place_of c.args.place.now).0 (place_of c.args.place.now).1 (expression_of c.args.e.now) (state_of c.args.m.now) (state_of c.spend.new.m) (state_of c.value.new.m) (value_of c.in_ok-v.v) c.in_ok-spend.ensures.run c.in_ok-v.ensures.run (value_of c.in_ok-w.w) c.in_ok-w.ensures (spot_of c.in_ok-spot.spot) (state_of c.place.new.m) c.in_ok-spot.ensures.run (state_of c.put.new.m) c.in_ok-put.ensures.run
