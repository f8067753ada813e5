use Rattle.scenario.specs.Reading.{scenario_lines}
use Rattle.scenario.proofs.ScenarioLaws.{one_scenario_lem}
use Rattle.scenario.proofs.reading.one_scenario.Goals as goal

pub returns : goal.returns
returns c = λ bytes held other. one_scenario_lem (scenario_lines bytes) held other
