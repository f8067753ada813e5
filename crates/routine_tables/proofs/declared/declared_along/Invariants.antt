use Rattle.std.proofs.Common.{◌≡◌, ◌≤◌, reverse, drop, length}
use Rattle.st_values.specs.View as view
use Rattle.program_tables.specs.st_initial.Variables.{variables_of}
use Rattle.routine_tables.proofs.declared.declared_along.Given as goal

-- those of the classes from this one upward
abbrev pub invariant-loop-left : goal.invariant-loop-left
invariant-loop-left l = (l.left ≤ length l.chain) × (variables_of l.out.items ≡ view.declared_along l.classes (reverse (drop l.left l.chain)))

abbrev pub decreases-loop-left : goal.decreases-loop-left
decreases-loop-left l = l.left
