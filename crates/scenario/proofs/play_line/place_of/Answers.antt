use Rattle.scenario.proofs.PlaceLaws.{found_is}
use Rattle.scenario.proofs.play_line.place_of.Goals as goal

pub returns-clause-place : goal.returns-clause-place
returns-clause-place c = found_is c.args.sources.now c.args.name.now c.find.result c.find.ensures.distinct c.find.ensures.place
