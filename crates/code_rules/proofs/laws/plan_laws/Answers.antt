use Rattle.code_rules.proofs.PlanLaws.{place_found}
use Rattle.code_rules.proofs.laws.plan_laws.Goals as goal

pub returns : goal.returns
returns c = record { places = λ p vs offset n v e. place_found p vs offset n v e }
