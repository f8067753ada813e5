use Rattle.std.proofs.Common.{ap, sym, ◌∙◌}
use Rattle.st_values.specs.Program.{body_of}
use Rattle.st_values.specs.View.{program_of}
use Rattle.reference_tasks.proofs.TaskLaws.{begins_with, begins_with_none}
use Rattle.reference_tasks.proofs.tasks.program_body.Goals as goal

pub returns-in-Some : goal.returns-in-Some
returns-in-Some c = begins_with _ _ c.args.region _ _ c.requires.tables (sym c.in-Some.ensures.value) (c.body_of.ensures ∙ ap (body_of (program_of c.args.on.now.tables.now)) c.class_of_kind.ensures)

pub returns-in-None : goal.returns-in-None
returns-in-None c = begins_with_none _ _ c.args.region c.requires.tables (sym c.in-None.ensures.value)
