use Rattle.std.proofs.Common.{◌≡◌, ◌++◌, length, map}
use Rattle.plc_text.specs.Lines.{text_of}
use Rattle.st_values.specs.View.{program_of, region_of}
use Rattle.list_report.specs.Listed.{region_lines}
use Rattle.list_report.proofs.lines.push_regions.Given as goal

abbrev pub invariant-regions : goal.invariant-regions
invariant-regions l = l.text ++ text_of (region_lines (program_of l.program) l.number (map region_of l.left)) ≡ l.fn.text ++ text_of (region_lines (program_of l.program) 0 (map region_of l.program.regions))

abbrev pub decreases-regions : goal.decreases-regions
decreases-regions l = length l.left
