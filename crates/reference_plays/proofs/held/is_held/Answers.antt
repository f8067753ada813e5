use Rattle.std.proofs.Common.{◌∙◌}
use Rattle.reference_plays.proofs.HeldLaws.{any_held}
use Rattle.reference_plays.proofs.held.is_held.Goals as goal

pub returns : goal.returns
returns c = c.is_among.ensures ∙ any_held c.args.name.now c.args.held.now
