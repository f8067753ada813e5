use Rattle.check_names.proofs.name_spaces.TwiceLaws.{TwiceTo}
use Rattle.check_names.proofs.name_spaces.twice.twice_fault.Given as goal

abbrev pub invariant-loop-name : goal.invariant-loop-name
invariant-loop-name l = TwiceTo l.initial.held l.held l.found l.names l.name-index
