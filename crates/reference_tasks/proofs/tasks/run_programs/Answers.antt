use Rattle.std.proofs.Common.{refl, ◌∙◌}
use Rattle.st_values.specs.View.{program_of}
use Rattle.run_state.specs.State.{state_of}
use Rattle.reference_values.proofs.LoopSteps.{next, halted}
use Rattle.reference_tasks.proofs.TaskLaws.{programs_at, programs_end}
use Rattle.reference_tasks.proofs.tasks.run_programs.Goals as goal

pub loop-region-preserved : goal.loop-region-preserved
loop-region-preserved c = (
  next _ _ _ _ _ _ (programs_at (program_of c.args.on.now.tables.now) c.args.room c.args.line (state_of c.loop-region.m) c.loop-region.region-index c.args.programs.now _ c.loop-region-test.true refl) c.in-Ok.ensures.run c.loop-region.invariant.0,
  c.in-Ok.ensures.base ∙ c.loop-region.invariant.1,
)

pub returns-in-Err-clause-run : goal.returns-in-Err-clause-run
returns-in-Err-clause-run c =
    halted c.in-Err.stop _ _ _ _ (state_of c.run_program.new.m)
    (programs_at (program_of c.args.on.now.tables.now) c.args.room c.args.line (state_of c.loop-region.m) c.loop-region.region-index c.args.programs.now _ c.loop-region-test.true refl) c.loop-region.invariant.0 c.in-Err.ensures.run

pub returns-clause-run : goal.returns-clause-run
returns-clause-run c =
    programs_end (program_of c.args.on.now.tables.now) c.args.room c.args.line (state_of c.loop-region.m) c.loop-region.region-index c.args.programs.now _ c.loop-region.invariant.0 c.loop-region-test.false
