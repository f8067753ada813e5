use Rattle.st_change.proofs.Same.{refusals_leave}
use Rattle.st_change.proofs.one_thread.refusals_leave.Goals as goal

pub returns : goal.returns
returns g c sources = refusals_leave g.J.Judge.accepts g.J.Judge.refuses sources
