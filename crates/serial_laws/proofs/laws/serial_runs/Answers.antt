use Rattle.serial_laws.proofs.SerialRuns.{serial_runs}
use Rattle.serial_laws.proofs.laws.serial_runs.Goals as goal

pub returns : goal.returns
returns g c one = serial_runs g.P.Controlled.meaning g.met.P.Controlled.frames one
