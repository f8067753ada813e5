use Rattle.std.proofs.Common.{map, arith}
use Rattle.program_tables.proofs.st_initial.WalkLaws.{positive}
use Rattle.st_values.specs.View.{program_of}
use Rattle.call_frames.specs.Opening.{given_of}
use Rattle.program_tables.specs.Routine.{routine_of}
use Rattle.run_state.specs.State.{frame_of, state_of}
use Rattle.reference_bodies.proofs.EffectSteps.{shown_so}
use Rattle.reference_tasks.proofs.EnterLaws.{entered_as}
use Rattle.reference_tasks.proofs.WalkSteps.{walks_by}
use Rattle.reference_tasks.proofs.entering.+enter+fn-enter-deeper.Goals as goal

pub returns-clause-run : goal.returns-clause-run
returns-clause-run t c =
    shown_so frame_of c.run_body.result _ _ (state_of c.run_body.new.m) (entered_as (program_of c.args.on.now.tables.now) (routine_of c.args.on.now.tables.now c.args.routine) c.args.line c.args.room c.args.own (map given_of c.args.given) (state_of c.args.m.now) (state_of c.open_routine.new.m) (positive c.args.room c.if-room-eq0.false) c.in_ok-open_routine.ensures.run) c.run_body.ensures.run

pub run_body-requires-clause-walks : goal.run_body-requires-clause-walks
run_body-requires-clause-walks t c =
    walks_by _ _ _ _ _ c.requires.routines (λ m routine own given line. (omega arith, c.requires)) (λ m n routine own given line x h. h.3)
