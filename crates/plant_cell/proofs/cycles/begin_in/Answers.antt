use Rattle.plant_cell.specs.Cycles.{early, paused, hindered}
use Rattle.plant_cell.proofs.CycleLaws.{still_waiting}
use Rattle.plant_cell.proofs.cycles.begin_in.Goals as goal

pub returns-in-Early-clause-tried : goal.returns-in-Early-clause-tried
returns-in-Early-clause-tried g c = still_waiting g.P.Controlled.meaning c.args.core.now c.begin.new.self c.args.play c.in-Early.ensures.0 (early c.in-Early.play c.in-Early.ensures.1)

pub returns-in-Paused-clause-tried : goal.returns-in-Paused-clause-tried
returns-in-Paused-clause-tried g c = still_waiting g.P.Controlled.meaning c.args.core.now c.begin.new.self c.args.play c.in-Paused.ensures.0 (paused c.in-Paused.change c.in-Paused.ensures.1)

pub returns-in-Busy-clause-tried : goal.returns-in-Busy-clause-tried
returns-in-Busy-clause-tried g c = still_waiting g.P.Controlled.meaning c.args.core.now c.begin.new.self c.args.play c.in-Busy.ensures.0 (hindered c.in-Busy.region c.in-Busy.holder c.in-Busy.ensures.1)
