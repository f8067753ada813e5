use Rattle.std.proofs.Common.{◌≡◌, ◌≤◌, ℕ, List, drop, length}
use Rattle.std.specs.List.{list_any}
use Rattle.st_rules.specs.Calls.{gives_input}
use Rattle.check_calls.specs.Heads.{heads_told}
use Rattle.check_calls.specs.Private.Names.{is_in}
use Rattle.check_calls.proofs.faults.input_names.Given as goal

abbrev pub invariant-heads : goal.invariant-heads
invariant-heads l = record {
  within : l.i ≤ length l.heads;
  noted : (q : List ℕ) → is_in l.names q ≡ list_any (gives_input q) (heads_told (drop l.i l.heads));
}

abbrev pub decreases-heads : goal.decreases-heads
decreases-heads l = l.i
