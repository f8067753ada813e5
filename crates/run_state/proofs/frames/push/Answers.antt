use Rattle.std.proofs.Common.{sym, ap, ◌∙◌, []}
use Rattle.st_meaning.specs.State.{Done}
use Rattle.run_state.specs.State.{stack, state_of}
use Rattle.run_state.proofs.Stack.{stack-push}
use Rattle.run_state.proofs.frames.push.Goals as goal

pub returns-in-Ok-clause-run : goal.returns-in-Ok-clause-run
returns-in-Ok-clause-run c = ap (λ l. Done tt (record (state_of c.args.m.now) { frames = l })) (sym (ap (stack []) c.in-Ok.ensures.ok ∙ stack-push [] c.args.m.now.frames c.args.frame))
