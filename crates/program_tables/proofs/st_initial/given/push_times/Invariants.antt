use Rattle.std.proofs.Common.{◌≡◌, ◌≤◌, ◌++◌, length}
use Rattle.std.specs.Prelude.{replicate}
use Rattle.st_tree.specs.Initial.{initial_of}
use Rattle.program_tables.specs.st_initial.Given.{inits_of}
use Rattle.program_tables.proofs.st_initial.given.push_times.Given as goal

-- what was added, and what is left, is the whole
abbrev pub invariant-loop-left : goal.invariant-loop-left
invariant-loop-left l =
    (length l.out.items ≤ l.limit) × ((inits_of l.out.items ++ replicate l.left (initial_of l.init)) ≡ (inits_of l.initial.out.items ++ replicate l.count (initial_of l.init)))

abbrev pub decreases-loop-left : goal.decreases-loop-left
decreases-loop-left l = l.left
