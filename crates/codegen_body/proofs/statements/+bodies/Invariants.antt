use Rattle.std.proofs.Common.{◌≡◌, ◌≤◌, ◌++◌, drop, length, reverse}
use Rattle.st_tree.specs.Statement.{branches_of, cases_of, statements_of}
use Rattle.codegen_tables.specs.Context.{plan_in}
use Rattle.code_rules.specs.Bodies.{branches_code, cases_code, effects_code}
use Rattle.codegen_body.specs.Backward.{Built, targets_at}
use Rattle.codegen_body.proofs.statements.+bodies.Given as goal

abbrev pub invariant-emit_body-statements : goal.invariant-emit_body-statements
invariant-emit_body-statements l = record {
  within : l.i ≤ length l.body;
  behind : length l.initial.cells.items ≤ length l.cells.items;
  done : reverse l.cells.items ≡ effects_code (plan_in l.c) (targets_at (length l.initial.cells.items) l.to) l.free (statements_of (drop l.i l.body)) ++ reverse l.initial.cells.items;
}

abbrev pub decreases-emit_body-statements : goal.decreases-emit_body-statements
decreases-emit_body-statements l = l.i

abbrev pub invariant-emit_branches-branches : goal.invariant-emit_branches-branches
invariant-emit_branches-branches l = record {
  within : l.i ≤ length l.branches;
  done : Built (branches_code (plan_in l.c) l.line (targets_at l.end l.to) l.free (branches_of (drop l.i l.branches))) l.end l.initial.cells.items l.cells.items;
  behind : l.end ≤ length l.cells.items;
}

abbrev pub decreases-emit_branches-branches : goal.decreases-emit_branches-branches
decreases-emit_branches-branches l = l.i

abbrev pub invariant-emit_cases-cases : goal.invariant-emit_cases-cases
invariant-emit_cases-cases l = record {
  within : l.i ≤ length l.cases;
  done : Built (cases_code (plan_in l.c) l.line (targets_at l.end l.to) l.free (cases_of (drop l.i l.cases))) l.end l.initial.cells.items l.cells.items;
  behind : l.end ≤ length l.cells.items;
}

abbrev pub decreases-emit_cases-cases : goal.decreases-emit_cases-cases
decreases-emit_cases-cases l = l.i
