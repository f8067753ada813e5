use Rattle.std.proofs.Common.{ℕ, ◌≤◌, ◌-◌, length}
use Rattle.std.specs.Map.{values_of}
use Rattle.reference_plays.specs.Controller.{controller_of}
use Rattle.reference_journal.specs.Private.Running.{RunsOn}
use Rattle.reference_journal.proofs.playing.play_version.Given as goal

-- the entries go on from those that were there
abbrev pub invariant-plays : goal.invariant-plays
invariant-plays g l = record {
  run : RunsOn g.J.Judge.accepts g.J.Judge.refuses (values_of l.sources) l.plays l.fn.entries (controller_of l.plan l.fn.c) l.entries (controller_of l.plan l.c);
  more : length l.fn.entries ≤ length l.entries;
}

abbrev pub decreases-plays : goal.decreases-plays
decreases-plays g l = length l.plays - length l.entries
