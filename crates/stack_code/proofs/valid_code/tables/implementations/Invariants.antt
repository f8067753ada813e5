use Rattle.std.proofs.Common.{◌≡◌, ◌≤◌, ℕ, drop, length}
use Rattle.std.specs.HashMap.{get}
use Rattle.stack_code.specs.Machine.{first_target}
use Rattle.stack_code.specs.valid_code.Private.Tables.{same_implemented}
use Rattle.stack_code.proofs.valid_code.tables.implementations.Given as goal

abbrev pub invariant-entries : goal.invariant-entries
invariant-entries l = (l.left ≤ length l.table) × ((class interface method : ℕ) → get same_implemented l.found (class, (interface, method)) ≡ first_target (drop l.left l.table) class interface method)

abbrev pub decreases-entries : goal.decreases-entries
decreases-entries l = l.left
