use Rattle.std.proofs.Common.{length}
use Rattle.scenario.specs.Reading.{scenario_lines}
use Rattle.scenario.proofs.ScenarioLaws.{HasRead}
use Rattle.scenario.proofs.reading.read_scenario.Given as goal

abbrev pub invariant-loop-line : goal.invariant-loop-line
invariant-loop-line l = HasRead (scenario_lines l.bytes) l.reader l.lines l.number

abbrev pub decreases-loop-line : goal.decreases-loop-line
decreases-loop-line l = length l.lines
