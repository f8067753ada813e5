use Rattle.std.proofs.Common.{[]}
use Rattle.check_names.proofs.name_rules.spaces.first_twice.Goals as goal

pub returns : goal.returns
returns c = c.in_ok-fault.ensures [] c.new-held.ensures
