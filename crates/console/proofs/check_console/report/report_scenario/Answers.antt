use Rattle.std.proofs.Common.{◌≡◌, rules}
use Rattle.scenario.specs.Scenario.{contents_of}
use Rattle.console.specs.check_console.Report.{judged, stopped}
use Rattle.console.proofs.check_console.ReportLaws.{first_some, first_none, says_so}
use Rattle.console.proofs.check_console.report.report_scenario.Goals as goal

pub returns-in_ok-report-in-Some : goal.returns-in_ok-report-in-Some
returns-in_ok-report-in-Some g c =
    stopped c.in-Some.refusal (first_some g.J.Judge.accepts g.J.Judge.refuses c.args.scenario.now.program c.in_ok-refusal.field-0 c.in-Some.refusal c.in-Some.is c.in_ok-refusal.ensures)
    c.in_ok-report-in-Some.ensures.verdict c.in_ok-report-in-Some.ensures.text

pub returns-in_ok-report-in-None : goal.returns-in_ok-report-in-None
returns-in_ok-report-in-None g c =
    let same : c.deref.result.now ≡ (contents_of c.args.scenario.now).sources = search rules in
    let first = first_none g.J.Judge.accepts g.J.Judge.refuses c.args.scenario.now.program c.in_ok-refusal.field-0 c.in-None.is c.in_ok-refusal.ensures in
    let says = says_so g.J.Judge.accepts g.J.Judge.refuses (contents_of c.args.scenario.now).sources c.deref.result.now c.in_ok-report-in-None.report.text same c.in_ok-report-in-None.ensures.text in
    judged first.program first.accepted first.starts says.lines says.judged c.in_ok-report-in-None.ensures.verdict says.says
