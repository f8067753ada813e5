use Rattle.std.proofs.Common.{◌≡◌, ◌-◌, ◌≤◌}
use Rattle.code_rules.specs.Code.{bit}
use Rattle.codegen_parts.proofs.calls.bit.Given as goal

abbrev pub invariant-places : goal.invariant-places
invariant-places l = record {
  within : l.k ≤ l.i;
  done : l.n ≡ bit l.k;
}

abbrev pub decreases-places : goal.decreases-places
decreases-places l = l.i - l.k
