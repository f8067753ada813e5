use Rattle.check_signatures.proofs.unit_signatures.ParameterLaws.{initial_found, no_initial}
use Rattle.check_signatures.proofs.unit_signatures.parameters.initial_worth.Goals as goal

pub returns-then-is_in_out : goal.returns-then-is_in_out
returns-then-is_in_out c = no_initial _ _ _ _ _ _ _ c.is_in_out.ensures c.if-is_in_out.true

pub returns : goal.returns
returns c = initial_found _ _ _ _ _ _ _ _ _ c.is_in_out.ensures c.if-is_in_out.false c.in_ok-worth.ensures
