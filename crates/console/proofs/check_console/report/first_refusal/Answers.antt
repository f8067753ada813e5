use Rattle.st_values.specs.View.{program_of}
use Rattle.reference_journal.specs.Loading.{FirstRefused, by_text}
use Rattle.console.proofs.check_console.ReportLaws.{refused_so, first_so}
use Rattle.console.proofs.check_console.report.first_refusal.Goals as goal

pub returns-in-Ok : goal.returns-in-Ok
returns-in-Ok g c =
    first_so g.J.Judge.accepts g.J.Judge.refuses c.args.text.now (program_of c.in-Ok.program) c.load_first-loaded.result c.in-Ok.ensures.accepted
    (g.met.J.Checker.kept c.args.text.now (program_of c.in-Ok.program) c.in-Ok.ensures.accepted).unfolds c.load_first-loaded.ensures

pub returns-in-Err-Refused : goal.returns-in-Err-Refused
returns-in-Err-Refused g c =
    let told : FirstRefused g.J.Judge.accepts g.J.Judge.refuses c.args.text.now c.in-Err-Refused.refusal =
    by_text (refused_so c.in-Err-Refused.field-0 c.in-Err-Refused.refusal (g.J.Judge.refuses c.args.text.now) c.in-Err-Refused.field-0-is c.in-Err-Refused.ensures.refused) in
    rw c.in-Err-Refused.field-0-is told
