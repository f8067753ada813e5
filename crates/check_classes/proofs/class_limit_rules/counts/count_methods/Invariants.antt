use Rattle.check_classes.proofs.class_limit_rules.CountLaws.{MethodsTo}
use Rattle.check_classes.proofs.class_limit_rules.counts.count_methods.Given as goal

abbrev pub invariant-loop-member : goal.invariant-loop-member
invariant-loop-member l = MethodsTo l.members l.count l.member-index
