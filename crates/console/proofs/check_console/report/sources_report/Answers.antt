use Rattle.console.proofs.check_console.ReportLaws.{says_by}
use Rattle.console.proofs.check_console.report.sources_report.Goals as goal

pub returns-clause-text : goal.returns-clause-text
returns-clause-text g c = says_by g.J.Judge.accepts g.J.Judge.refuses c.args.sources.now c.in_ok-text.text c.push_sources.new.out c.in_ok-text.ensures c.in_ok-push_sources.ensures
