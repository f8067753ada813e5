use Rattle.std.proofs.Common.{◌≡◌, ◌++◌, length}
use Rattle.st_values.specs.View.{program_of}
use Rattle.list_report.specs.Listed.{names_at}
use Rattle.list_report.proofs.lines.push_names.Given as goal

abbrev pub invariant-regions : goal.invariant-regions
invariant-regions l = l.text ++ names_at (program_of l.program) l.left ≡ l.fn.text ++ names_at (program_of l.program) l.fn.regions

abbrev pub decreases-regions : goal.decreases-regions
decreases-regions l = length l.left
