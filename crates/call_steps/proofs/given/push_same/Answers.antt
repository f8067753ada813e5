use Rattle.std.proofs.Common.{sym, ap, ◌∙◌}
use Rattle.run_state.specs.State.{state_of}
use Rattle.routine_tables.specs.Parameters.{parameter_of}
use Rattle.call_steps.specs.Private.Given.{same_one}
use Rattle.call_steps.proofs.SameLaws.{same_added}
use Rattle.call_steps.proofs.given.push_same.Goals as goal

pub returns-in-Ok : goal.returns-in-Ok
returns-in-Ok c =
    same_added (parameter_of c.args.parameter) c.args.line (state_of c.args.m.now) c.in_ok-one.one c.args.given.now c.push.new.self (sym c.is_in_out.ensures ∙ c.if-not-is_in_out.false)
    (ap (λ n. same_one n c.args.line (state_of c.args.m.now)) (sym c.number_to.ensures) ∙ c.in_ok-one.ensures) c.in-Ok.ensures.ok
