use Rattle.check_declared_variables.proofs.variable_rules.ItemLaws.{result_there, no_result}
use Rattle.check_declared_variables.proofs.variable_rules.results.check_result.Goals as goal

pub returns-in_ok-found-in-Some : goal.returns-in_ok-found-in-Some
returns-in_ok-found-in-Some c = result_there _ _ _ _ _ _ c.in-Some.is c.in_ok-found-in-Some.ensures c.result_of.ensures
