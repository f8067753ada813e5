use Rattle.std.proofs.Common.{ap, ◌∙◌}
use Rattle.st_rules.specs.Places.{is_no_variable}
use Rattle.check_places.proofs.assignability.is_fixed_name.Goals as goal

pub returns : goal.returns
returns c = c.is_no_variable.ensures c.args.s.now ∙ ap (is_no_variable c.args.s.now) c.sought.ensures
