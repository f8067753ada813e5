use Rattle.std.proofs.Common.{◌≡◌, ◌≤◌, ◌++◌, drop, length, reverse}
use Rattle.code_rules.specs.Bodies.{labels_code}
use Rattle.codegen_body.proofs.labels.emit_labels.Given as goal

abbrev pub invariant-labels : goal.invariant-labels
invariant-labels l = record {
  within : l.i ≤ length l.labels;
  done : reverse l.cells.items ≡ labels_code l.line (drop l.i l.labels) ++ reverse l.initial.cells.items;
}

abbrev pub decreases-labels : goal.decreases-labels
decreases-labels l = l.i
