use Rattle.std.proofs.Common.{◌≡◌, ◌∷◌, rules}
use Rattle.run_state.specs.State.{state_of}
use Rattle.call_steps.proofs.SameLaws.{same_next, same_stopped}
use Rattle.call_steps.proofs.given.same_in_outs.Goals as goal

pub parameters-preserved : goal.parameters-preserved
parameters-preserved c =
    let split : c.parameters.left.now ≡ c.in-Some.parameter.now ∷ c.in-Some.behind.now = search rules in
    same_next c.args.parameters.now c.args.line (state_of c.args.m.now) c.parameters.left.now c.in-Some.behind.now c.in-Some.parameter.now c.parameters.given c.push_same.new.given split c.parameters.invariant c.in-Ok.ensures

pub returns-in-Err : goal.returns-in-Err
returns-in-Err c =
    let split : c.parameters.left.now ≡ c.in-Some.parameter.now ∷ c.in-Some.behind.now = search rules in
    same_stopped c.args.parameters.now c.args.line (state_of c.args.m.now) c.parameters.left.now c.in-Some.behind.now c.in-Some.parameter.now c.parameters.given c.push_same.new.given c.in-Err.stop split c.parameters.invariant c.in-Err.ensures
