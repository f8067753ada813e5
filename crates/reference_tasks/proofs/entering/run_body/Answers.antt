use Rattle.std.proofs.Common.{refl, sym, ap, ◌∙◌}
use Rattle.std.proofs.lemmas.Result.{err_from_is_err_and}
use Rattle.st_meaning.specs.Enter.{enter}
use Rattle.st_meaning.specs.State.{go_on}
use Rattle.st_meaning.specs.Statement.{effects}
use Rattle.st_values.specs.View.{program_of}
use Rattle.program_tables.specs.Routine.{routine_of}
use Rattle.run_state.specs.State.{frame_of, state_of}
use Rattle.reference_values.proofs.LoopSteps.{stopped}
use Rattle.reference_bodies.specs.Flow.{flow_of}
use Rattle.reference_bodies.proofs.EffectSteps.{shown_so}
use Rattle.reference_tasks.proofs.EnterLaws.{ends}
use Rattle.reference_tasks.proofs.entering.run_body.Goals as goal

pub returns-in_err-effects-clause-run : goal.returns-in_err-effects-clause-run
returns-in_err-effects-clause-run g c =
    let p = err_from_is_err_and c.from_residual.result c.from_residual.ensures.1 in
    rw (p.1, p.2) (stopped flow_of frame_of c.in_err-effects.field-0.0 _ _ _ _ (state_of c.effects.new.m) (ap (λ b. go_on (effects (program_of c.args.on.now.tables.now) (enter (program_of c.args.on.now.tables.now) c.args.room) b c.args.line (state_of c.args.m.now)) (ends (program_of c.args.on.now.tables.now) (routine_of c.args.on.now.tables.now c.args.routine) c.args.line)) (sym c.body_text.ensures)) refl c.in_err-effects.ensures.run)

pub returns-clause-run : goal.returns-clause-run
returns-clause-run g c =
    shown_so frame_of c.pop.result _ _ (state_of c.pop.new.m)
    (ap (λ b. go_on (effects (program_of c.args.on.now.tables.now) (enter (program_of c.args.on.now.tables.now) c.args.room) b c.args.line (state_of c.args.m.now)) (ends (program_of c.args.on.now.tables.now) (routine_of c.args.on.now.tables.now c.args.routine) c.args.line)) (sym c.body_text.ensures) ∙ ap (λ o. go_on o (ends (program_of c.args.on.now.tables.now) (routine_of c.args.on.now.tables.now c.args.routine) c.args.line)) c.in_ok-effects.ensures.run) c.pop.ensures.run
