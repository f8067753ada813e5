use Rattle.std.proofs.Common.{ℕ, ◌-◌, [], length}
use Rattle.std.specs.Map.{values_of}
use Rattle.st_values.specs.View.{program_of}
use Rattle.region_instances.specs.Instances.{RegionsUnfold}
use Rattle.reference_journal.specs.Private.Running.{RunsOn}
use Rattle.reference_journal.specs.Private.Versions.{state_of}
use Rattle.reference_journal.proofs.versions.play_versions.Given as goal

-- the entries lead from the first version to the one that runs
abbrev pub invariant-versions : goal.invariant-versions
invariant-versions g l = record {
  run : RunsOn g.J.Judge.accepts g.J.Judge.refuses (values_of l.sources) l.plays [] (state_of l.fn.version.program l.fn.version.state) l.entries (state_of l.running.program l.running.state);
  unfolds : RegionsUnfold (program_of l.running.program);
}

abbrev pub decreases-versions : goal.decreases-versions
decreases-versions g l = length l.plays - length l.entries
