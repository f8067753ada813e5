use Rattle.plant_rules.specs.History.{reset}
use Rattle.core_plays.proofs.RestLaws.{at_next, not_early, after_reset}
use Rattle.core_plays.proofs.plays.release.Goals as goal

pub unreachable-requires-in-Early : goal.unreachable-requires-in-Early
unreachable-requires-in-Early g c = not_early g.P.Controlled.meaning _ _ _ _ c.requires.rest _ c.requires.there c.in-Early.ensures.1

pub returns-clause-rest : goal.returns-clause-rest
returns-clause-rest g c =
    after_reset g.P.Controlled.meaning c.args.core.now c.reset.new.self 0 c.args.done c.in-Made.ensures.0
    (at_next g.P.Controlled.meaning c.args.core.now c.reset.new.self 0 c.args.done (reset c.in-Made.ensures.0) c.in-Made.ensures.3) c.requires.there c.requires.rest
