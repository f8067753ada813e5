use Rattle.serial_laws.proofs.SerialThreads.{serial_threads}
use Rattle.serial_laws.proofs.laws.serial_threads.Goals as goal

pub returns : goal.returns
returns g c promises = serial_threads g.J.Judge.accepts g.J.Judge.refuses g.J.Judge.judges promises
