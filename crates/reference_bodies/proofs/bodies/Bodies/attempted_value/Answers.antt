use Rattle.st_meaning.specs.Enter.{enter}
use Rattle.st_meaning.specs.Operation.{path_in}
use Rattle.st_values.specs.View.{program_of}
use Rattle.run_state.specs.State.{state_of}
use Rattle.value_trees.specs.Value.{value_of}
use Rattle.reference_bodies.proofs.EffectSteps.{attempted_is, shown_so}
use Rattle.reference_bodies.proofs.bodies.Bodies.attempted_value.Goals as goal

pub returns : goal.returns
returns g c =
    shown_so value_of c.attempted.result _ _ (state_of c.args.m.now) (attempted_is (program_of c.args.self.now.walk.tables.now) (enter (program_of c.args.self.now.walk.tables.now) c.args.self.now.walk.room) c.args.kind.now (path_in (value_of c.args.v.now)) c.args.line (state_of c.args.m.now)) c.attempted.ensures
