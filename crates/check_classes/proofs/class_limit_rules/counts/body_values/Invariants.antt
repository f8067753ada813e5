use Rattle.check_classes.proofs.class_limit_rules.CountLaws.{ValuesTo}
use Rattle.check_classes.proofs.class_limit_rules.counts.body_values.Given as goal

abbrev pub invariant-loop-class : goal.invariant-loop-class
invariant-loop-class l = ValuesTo l.s l.chain l.sum l.class-index
