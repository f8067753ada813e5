use Rattle.std.proofs.Common.{◌≡◌, ap, ◌∙◌, ℕ}
use Rattle.plc_text.specs.Lines.{FirstBad}
use Rattle.scenario.specs.Reading.{scenario_lines, NoScenario, CanBegin}
use Rattle.scenario.specs.Scenario.{contents_of}
use Rattle.console_command.specs.Reports.{script_text}
use Rattle.console.specs.check_console.Report.{no_scenario, a_scenario}
use Rattle.console.proofs.check_console.ReportLaws.{bad_so}
use Rattle.console.proofs.check_console.report.report_bytes.Goals as goal

pub returns-in_ok-report-in-Ok : goal.returns-in_ok-report-in-Ok
returns-in_ok-report-in-Ok g c = a_scenario (contents_of c.in-Ok.scenario) c.in-Ok.ensures.ok c.in_ok-report-in-Ok.ensures

pub returns-in_ok-report-in-Err-Bad : goal.returns-in_ok-report-in-Err-Bad
returns-in_ok-report-in-Err-Bad g c =
    let h = bad_so c.in-Err-Bad.field-0 c.in-Err-Bad.line (λ line. NoScenario (scenario_lines c.args.bytes.now) × FirstBad CanBegin (scenario_lines c.args.bytes.now) line) c.in-Err-Bad.field-0-is c.in-Err-Bad.ensures.bad in
    no_scenario c.in-Err-Bad.line h.0 h.1 c.in_ok-report-in-Err-Bad.ensures.verdict (c.in_ok-report-in-Err-Bad.ensures.text ∙ ap script_text c.from.ensures)
