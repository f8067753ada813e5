use Rattle.std.proofs.Common.{◌≡◌, rules}
use Rattle.scenario.specs.Scenario.{contents_of}
use Rattle.console.proofs.play_console.ReportLaws.{runs_so}
use Rattle.console.proofs.play_console.report.report_scenario.Goals as goal

pub returns : goal.returns
returns g c =
    let same : c.deref.result.now ≡ (contents_of c.args.scenario.now).sources = search rules in
    let plays : c.as_slice.result.now ≡ (contents_of c.args.scenario.now).plays = search rules in
    runs_so g.J.Judge.accepts g.J.Judge.refuses (contents_of c.args.scenario.now).sources c.deref.result.now c.args.scenario.now.program (contents_of c.args.scenario.now).plays c.as_slice.result.now c.in_ok-report.report.verdict c.in_ok-report.report.text same plays c.in_ok-report.ensures
