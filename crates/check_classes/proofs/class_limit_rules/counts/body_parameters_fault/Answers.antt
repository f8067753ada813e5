use Rattle.std.proofs.Common.{◌∙◌}
use Rattle.check_classes.proofs.class_limit_rules.CountLaws.{parameters_found}
use Rattle.check_classes.proofs.class_limit_rules.counts.body_parameters_fault.Goals as goal

pub returns : goal.returns
returns c = parameters_found _ _ _ _ _ _ c.in_ok-parameters.ensures (c.len-count.ensures ∙ c.in_ok-parameters.parameters.ok.0) c.when.ensures
