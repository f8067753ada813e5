use Rattle.default_values.proofs.structure_worths.GroupLaws.{lent_as}
use Rattle.check_signatures.proofs.unit_signatures.ParameterLaws.{worth_found, no_worth}
use Rattle.check_signatures.proofs.unit_signatures.parameters.worth_of.Goals as goal

pub returns-in_ok-worth-in-Some : goal.returns-in_ok-worth-in-Some
returns-in_ok-worth-in-Some c = worth_found _ _ _ _ _ _ _ _ _ c.in-Some.is (lent_as _ _ c.as_ref-given.ensures.value) c.in_ok-worth-in-Some.ensures

pub returns-in-None : goal.returns-in-None
returns-in-None c = no_worth _ _ _ _ _ c.in-None.is
