use Rattle.default_values.proofs.worth_steps.LevelLaws.{step_laws}
use Rattle.default_values.proofs.worth_steps.laws.step_laws.Goals as goal

pub returns : goal.returns
returns c = step_laws
