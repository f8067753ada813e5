use Rattle.std.proofs.Common.{◌≡◌, ◌++◌, length}
use Rattle.plc_text.specs.Lines.{text_of}
use Rattle.st_values.specs.View.{program_of}
use Rattle.list_report.specs.Listed.{task_lines, lists}
use Rattle.list_report.proofs.lines.push_tasks.Given as goal

abbrev pub invariant-tasks : goal.invariant-tasks
invariant-tasks l = l.text ++ text_of (task_lines (program_of l.program) l.left (lists l.others)) ≡ l.fn.text ++ text_of (task_lines (program_of l.program) l.program.tasks (lists l.fn.footprints))

abbrev pub decreases-tasks : goal.decreases-tasks
decreases-tasks l = length l.left
