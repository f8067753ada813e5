use Rattle.std.proofs.Common.{refl, sym, ◌∙◌}
use Rattle.std.proofs.lemmas.Result.{err_from_is_err_and}
use Rattle.st_meaning.specs.Enter.{enter}
use Rattle.st_values.specs.View.{program_of}
use Rattle.call_steps.specs.Callee.{callee_seen}
use Rattle.run_state.specs.State.{frame_of, state_of}
use Rattle.reference_values.specs.Private.Parts.{called_of}
use Rattle.reference_values.proofs.CallSteps.{effect_unsought, effect_unrun, effect_ends}
use Rattle.reference_values.proofs.walk.Walk.call_effect.Goals as goal

pub returns-in_err-called-clause-run : goal.returns-in_err-called-clause-run
returns-in_err-called-clause-run g c =
    let p = err_from_is_err_and c.from_residual-in_err-called.result c.from_residual-in_err-called.ensures.1 in
    rw (p.1, p.2) (effect_unsought (program_of c.args.self.now.tables.now) (enter (program_of c.args.self.now.tables.now) c.args.self.now.room) c.args.line (state_of c.args.m.now) c.args.place.now c.as_slice.result.now c.args.arguments.now c.args.arguments.now (callee_seen c.callee_of-callee.result) c.as_slice.ensures refl c.callee_of-callee.ensures (sym c.is_conversion.ensures ∙ c.if-is_conversion.false)
    (called_of c.args.self.now.tables.now) c.in_err-called.field-0.0 (state_of c.sought.new.m) c.in_err-called.ensures.run)

pub returns-in_err-run_called-clause-run : goal.returns-in_err-run_called-clause-run
returns-in_err-run_called-clause-run g c =
    let p = err_from_is_err_and c.from_residual-in_err-run_called.result c.from_residual-in_err-run_called.ensures.1 in
    rw (p.1, p.2) (effect_unrun (program_of c.args.self.now.tables.now) (enter (program_of c.args.self.now.tables.now) c.args.self.now.room) c.args.line (state_of c.args.m.now) c.args.place.now c.as_slice.result.now c.args.arguments.now c.args.arguments.now (callee_seen c.callee_of-callee.result) c.as_slice.ensures refl c.callee_of-callee.ensures (sym c.is_conversion.ensures ∙ c.if-is_conversion.false)
    (called_of c.args.self.now.tables.now c.in_ok-called.called) (state_of c.sought.new.m) c.in_err-run_called.field-0.0 (state_of c.run_called.new.m) c.in_ok-called.ensures.run c.in_err-run_called.ensures.run)

pub returns-clause-run : goal.returns-clause-run
returns-clause-run g c =
    effect_ends (program_of c.args.self.now.tables.now) (enter (program_of c.args.self.now.tables.now) c.args.self.now.room) c.args.line (state_of c.args.m.now) c.args.place.now c.as_slice.result.now c.args.arguments.now c.args.arguments.now (callee_seen c.callee_of-callee.result) c.as_slice.ensures refl c.callee_of-callee.ensures (sym c.is_conversion.ensures ∙ c.if-is_conversion.false)
    (called_of c.args.self.now.tables.now c.in_ok-called.called) (state_of c.sought.new.m) (frame_of c.in_ok-run_called.field-0) (state_of c.run_called.new.m) c.in_ok-called.ensures.run c.in_ok-run_called.ensures.run
