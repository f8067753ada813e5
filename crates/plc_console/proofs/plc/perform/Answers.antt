use Rattle.plc_console.proofs.plc.perform.Goals as goal

pub returns-in-Check-clause-wrote : goal.returns-in-Check-clause-wrote
returns-in-Check-clause-wrote g c = rw c.in-Check.is c.check.ensures.wrote

pub returns-in-Check-clause-complete : goal.returns-in-Check-clause-complete
returns-in-Check-clause-complete g c = rw c.in-Check.is c.check.ensures.complete

pub returns-in-Play-clause-wrote : goal.returns-in-Play-clause-wrote
returns-in-Play-clause-wrote g c = rw c.in-Play.is c.play.ensures.wrote

pub returns-in-Play-clause-complete : goal.returns-in-Play-clause-complete
returns-in-Play-clause-complete g c = rw c.in-Play.is c.play.ensures.complete
