use Rattle.std.proofs.Common.{◌≡◌, ℕ, ◌||◌, drop}
use Rattle.std.specs.HashSet.{contains}
use Rattle.stack_code.specs.valid_code.Private.Tables.{same_pair, is_conforming}
use Rattle.stack_code.proofs.valid_code.tables.pairs.Given as goal

abbrev pub invariant-entries : goal.invariant-entries
invariant-entries l = (class target : ℕ) → (contains same_pair l.found (class, target) || is_conforming class target (drop l.entry-index l.table)) ≡ is_conforming class target l.table
