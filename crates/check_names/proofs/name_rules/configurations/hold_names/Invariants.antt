use Rattle.check_names.proofs.name_rules.ConfigurationLaws.{HoldsTo, text_lent}
use Rattle.check_names.proofs.name_rules.configurations.hold_names.Given as goal

abbrev pub invariant-loop-name : goal.invariant-loop-name
invariant-loop-name l = HoldsTo text_lent l.initial.held l.held l.names l.name-index
