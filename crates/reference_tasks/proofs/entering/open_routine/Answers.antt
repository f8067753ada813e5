use Rattle.std.proofs.Common.{map, sym, ap, ◌∙◌}
use Rattle.st_tree.specs.declared.program.Program.{Program}
use Rattle.program_tables.specs.st_initial.Variables.{variables_of}
use Rattle.st_values.specs.View.{program_of}
use Rattle.call_frames.specs.Opening.{given_of, opened}
use Rattle.routine_tables.specs.Tables.{locals_in}
use Rattle.run_state.specs.State.{state_of}
use Rattle.reference_tasks.proofs.TaskLaws.{agrees_so}
use Rattle.reference_tasks.proofs.entering.open_routine.Goals as goal

pub returns-in-Some-clause-run : goal.returns-in-Some-clause-run
returns-in-Some-clause-run c =
    agrees_so c.open.result _ _ (state_of c.open.new.m)
    (ap (λ ls. opened (program_of c.args.on.now.tables.now) ls c.args.own (map given_of c.args.given) c.args.line (state_of c.args.m.now))
    (sym (c.requires.routines.locals c.args.routine) ∙ ap locals_in (sym c.in-Some.ensures) ∙ ap variables_of (sym c.as_slice-locals.ensures))
    ∙ ap (λ (p : Program). opened (program_of p) (variables_of c.as_slice-locals.result.now) c.args.own (map given_of c.args.given) c.args.line (state_of c.args.m.now)) c.requires.tables)
    c.open.ensures.run
