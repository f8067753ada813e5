use Rattle.thread_laws.proofs.Whole.{accepted_threads}
use Rattle.thread_laws.proofs.laws.accepted_threads.Goals as goal

pub returns : goal.returns
returns c = accepted_threads
