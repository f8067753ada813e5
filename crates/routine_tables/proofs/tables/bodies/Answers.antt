use Rattle.std.proofs.Common.{◌≡◌, length, arith, ap, ◌∙◌}
use Rattle.st_tree.specs.declared.program.Program.{Program}
use Rattle.st_values.specs.View.{program_of}
use Rattle.program_tables.specs.Routine.{routine_of}
use Rattle.program_tables.specs.declared.routine.RoutineId.TheVariants as id
use Rattle.routine_tables.proofs.TableLaws.{all_entries, no_body}
use Rattle.routine_tables.proofs.tables.bodies.Goals as goal

pub returns : goal.returns
returns c =
    all_entries (λ k. routine_of c.args.program.now (id.Body k)) c.loop-c.all c.loop-c.c c.loop-c.invariant
    (λ k h. let e : c.class_count-c-end.result ≡ length (program_of c.args.program.now).classes = c.class_count-c-end.ensures ∙ ap (λ (p : Program). length (program_of p).classes) c.requires in let t = c.loop-c-test.false in no_body c.args.program.now k (omega (arith, h, e, t)))
