use Rattle.st_values.specs.View.{program_of}
use Rattle.console.proofs.check_console.ReportLaws.{refused_so}
use Rattle.console.proofs.check_console.SourceLaws.{line_accepted, line_refused}
use Rattle.console.proofs.check_console.sources.push_source.Goals as goal

pub returns-in_ok-push_accepted-in-Ok : goal.returns-in_ok-push_accepted-in-Ok
returns-in_ok-push_accepted-in-Ok g c =
    line_accepted g.J.Judge.accepts g.J.Judge.refuses c.args.name.now c.args.text.now c.args.out.now c.push_accepted.new.out (program_of c.in-Ok.program) c.in-Ok.ensures.accepted c.in_ok-push_accepted-in-Ok.ensures

pub returns-in_ok-push_refused-in-Err-Refused : goal.returns-in_ok-push_refused-in-Err-Refused
returns-in_ok-push_refused-in-Err-Refused g c =
    line_refused g.J.Judge.accepts g.J.Judge.refuses c.args.name.now c.args.text.now c.args.out.now c.push_refused.new.out c.in-Err-Refused.refusal
    (refused_so c.in-Err-Refused.field-0 c.in-Err-Refused.refusal (g.J.Judge.refuses c.args.text.now) c.in-Err-Refused.field-0-is c.in-Err-Refused.ensures.refused) c.in_ok-push_refused-in-Err-Refused.ensures
