use Rattle.st_values.specs.View.{program_of}
use Rattle.reference_journal.specs.Loading.{by_text}
use Rattle.console.specs.play_console.Report.{refused}
use Rattle.console.proofs.play_console.ReportLaws.{refused_so}
use Rattle.console.proofs.play_console.report.report_first.Goals as goal

pub report_accepted-requires : goal.report_accepted-requires
report_accepted-requires g c = (g.met.J.Checker.kept c.args.text.now (program_of c.in-Ok.program) c.in-Ok.ensures.accepted).unfolds

pub returns-in_ok-report-in-Ok : goal.returns-in_ok-report-in-Ok
returns-in_ok-report-in-Ok g c = c.in_ok-report-in-Ok.ensures c.args.text.now c.in-Ok.ensures.accepted

pub returns-in_ok-report-in-Err-Refused : goal.returns-in_ok-report-in-Err-Refused
returns-in_ok-report-in-Err-Refused g c =
    refused c.in-Err-Refused.refusal (by_text (refused_so c.in-Err-Refused.field-0 c.in-Err-Refused.refusal (g.J.Judge.refuses c.args.text.now) c.in-Err-Refused.field-0-is c.in-Err-Refused.ensures.refused))
    c.in_ok-report-in-Err-Refused.ensures.verdict c.in_ok-report-in-Err-Refused.ensures.text
