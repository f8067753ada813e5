use Rattle.plant_rules.proofs.plant_history.AllLaws.{history_laws}
use Rattle.plant_rules.proofs.plant_history.histories.history_laws.Goals as goal

pub returns : goal.returns
returns g c = history_laws g.P.Controlled.meaning g.met.P.Controlled.frames
