use Rattle.cycle_journal.proofs.RefusalLaws.{refusal_of-some}
use Rattle.cycle_journal.proofs.candidate.refusal_of.Goals as goal

pub returns-then-is_some-is_e17 : goal.returns-then-is_some-is_e17
returns-then-is_some-is_e17 c = refusal_of-some c.args.code c.args.declaration c.args.line c.args.kind _
