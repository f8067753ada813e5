use Rattle.std.proofs.Common.{ap, sym, ◌∙◌}
use Rattle.st_values.specs.View.{program_of}
use Rattle.st_meaning.specs.Enter.{run_programs}
use Rattle.run_state.specs.State.{state_of}
use Rattle.reference_tasks.proofs.TaskLaws.{agrees_so, as_ordered}
use Rattle.reference_tasks.proofs.tasks.run_task.Goals as goal

pub returns-clause-run : goal.returns-clause-run
returns-clause-run c =
    agrees_so c.run_programs.result _ _ (state_of c.run_programs.new.m)
    (ap (λ rs. run_programs (program_of c.args.on.now.tables.now) rs c.args.line (state_of c.args.m.now)) (sym c.programs_of.ensures)
    ∙ as_ordered (program_of c.args.on.now.tables.now) c.programs_of.result.now c.args.line (state_of c.args.m.now))
    c.run_programs.ensures.run
