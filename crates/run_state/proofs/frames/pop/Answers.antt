use Rattle.std.proofs.Common.{ap, ◌∙◌, []}
use Rattle.st_meaning.specs.State.{pop_from}
use Rattle.run_state.specs.State.{stack, state_of}
use Rattle.run_state.proofs.Stack.{stack-push}
use Rattle.run_state.proofs.frames.pop.Goals as goal

pub returns-in-Some-clause-run : goal.returns-in-Some-clause-run
returns-in-Some-clause-run c = ap (λ l. pop_from l c.args.line (state_of c.args.m.now)) (ap (stack []) c.in-Some.ensures ∙ stack-push [] c.pop.new.self c.in-Some.frame)
