use Rattle.default_values.proofs.worth_numbers.ListLaws.{whole_worth}
use Rattle.default_values.proofs.worth_numbers.numbers.WorthNumbers.whole.Goals as goal

pub returns : goal.returns
returns c = whole_worth _ _ _ c.args.listed _ _ c.in_ok-list.ensures c.in_ok-number.ensures
