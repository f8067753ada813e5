use Rattle.core_plays.proofs.RestLaws.{is_there, few_done, has_source}
use Rattle.core_plays.proofs.plays.play_next.Goals as goal

pub at-requires : goal.at-requires
at-requires g c = has_source g.P.Controlled.meaning c.args.core.now c.args.done c.args.play.now c.requires.may c.requires.play c.in-Change.name c.in-Change.source c.args.sources.now c.in-Change.is c.requires.sources

pub make_change-requires-clause-few : goal.make_change-requires-clause-few
make_change-requires-clause-few g c = few_done g.P.Controlled.meaning c.args.core.now c.args.done c.args.play.now c.requires.may c.requires.play

pub make_change-requires-clause-there : goal.make_change-requires-clause-there
make_change-requires-clause-there g c = is_there g.P.Controlled.meaning c.args.core.now c.args.done c.args.play.now c.requires.may c.requires.play

pub release-requires-clause-few : goal.release-requires-clause-few
release-requires-clause-few g c = few_done g.P.Controlled.meaning c.args.core.now c.args.done c.args.play.now c.requires.may c.requires.play

pub release-requires-clause-there : goal.release-requires-clause-there
release-requires-clause-there g c = is_there g.P.Controlled.meaning c.args.core.now c.args.done c.args.play.now c.requires.may c.requires.play
