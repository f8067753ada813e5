use Rattle.thread_laws.proofs.Whole.{thread_laws, serial_cores}
use Rattle.thread_laws.proofs.laws.thread_laws.Goals as goal

pub returns-clause-threads : goal.returns-clause-threads
returns-clause-threads g c = thread_laws g.J.Judge.accepts g.J.Judge.refuses

pub returns-clause-serial : goal.returns-clause-serial
returns-clause-serial g c promises = serial_cores g.J.Judge.accepts g.J.Judge.refuses g.J.Judge.judges promises
