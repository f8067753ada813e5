use Rattle.st_meaning.proofs.Ticks.{ticks_fall, loops_unroll}
use Rattle.st_meaning.proofs.Faults.{faults_leave}
use Rattle.st_meaning.proofs.laws.run_laws.Goals as goal

pub returns : goal.returns
returns c = record { ticks = ticks_fall; loops = loops_unroll; faults = faults_leave }
