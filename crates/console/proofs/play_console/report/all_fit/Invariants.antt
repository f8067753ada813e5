use Rattle.console.proofs.play_console.FitLaws.{FitTo}
use Rattle.console.proofs.play_console.report.all_fit.Given as goal

abbrev pub invariant-loop-entry : goal.invariant-loop-entry
invariant-loop-entry l = FitTo l.plays l.entries l.entry-index
