use Rattle.std.proofs.Common.{rules, ◌<◌}
use Rattle.default_values.proofs.worth_numbers.ListLaws.{closed_some}
use Rattle.default_values.proofs.worth_numbers.numbers.WorthNumbers.closed.Goals as goal

pub returns : goal.returns
returns c = let some : 0 < c.args.listed.count = search rules in closed_some _ _ c.args.listed _ some c.in_ok-number.ensures
