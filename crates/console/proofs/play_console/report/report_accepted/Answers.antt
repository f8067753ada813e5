use Rattle.std.specs.Map.{values_of}
use Rattle.st_values.specs.View.{program_of}
use Rattle.console.proofs.play_console.ReportLaws.{told}
use Rattle.console.proofs.play_console.report.report_accepted.Goals as goal

pub returns : goal.returns
returns g c = λ text accepted.
    told g.J.Judge.accepts g.J.Judge.refuses (values_of c.args.sources.now) text c.args.plays.now (program_of c.args.program) c.in_ok-report.report.verdict c.in_ok-report.report.text c.in_ok-played.played accepted (c.in_ok-played.ensures text accepted) c.in_ok-report.ensures
