use Rattle.default_values.proofs.worth_numbers.ListLaws.{empty_list}
use Rattle.default_values.proofs.worth_numbers.numbers.WorthNumbers.no_parts.Goals as goal

pub returns : goal.returns
returns c = empty_list _ _ _ c.in_ok-rest.ensures
