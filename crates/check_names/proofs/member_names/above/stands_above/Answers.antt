use Rattle.std.proofs.Common.{◌∙◌}
use Rattle.check_names.proofs.member_names.AboveLaws.{any_above}
use Rattle.check_names.proofs.member_names.above.stands_above.Goals as goal

pub returns : goal.returns
returns c = c.any_has.ensures ∙ any_above c.args.name.now c.args.tables.now c.args.above.now
