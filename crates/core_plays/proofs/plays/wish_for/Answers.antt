use Rattle.core_plays.proofs.RestLaws.{not_early}
use Rattle.core_plays.proofs.plays.wish_for.Goals as goal

pub unreachable-requires-in-Early : goal.unreachable-requires-in-Early
unreachable-requires-in-Early g c = not_early g.P.Controlled.meaning _ _ _ _ c.requires.rest _ c.requires.there c.in-Early.ensures.1
