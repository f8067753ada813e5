use Rattle.std.proofs.Common.{ap, sym, ◌∙◌}
use Rattle.std.specs.List.{position_from}
use Rattle.plc_text.specs.Words.{same}
use Rattle.st_tree.specs.declared.program.Program.{Program}
use Rattle.st_values.specs.View.{program_of}
use Rattle.st_change.specs.OneThread.{task_named}
use Rattle.reference_plays.proofs.HeldLaws.{task_at}
use Rattle.reference_plays.proofs.plays.task_named.Goals as goal

pub returns : goal.returns
returns c =
    c.place_of.ensures ∙ ap (position_from (λ task. same task.name c.args.name.now) 0) c.as_slice.ensures ∙ task_at c.args.name.now 0 c.args.on.now.program.now.tasks
    ∙ ap (λ (p : Program). task_named (program_of p) c.args.name.now) (sym c.requires.tables)
