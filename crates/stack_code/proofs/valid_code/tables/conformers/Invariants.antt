use Rattle.std.proofs.Common.{◌≡◌, ℕ, ◌++◌, drop, nat_eq}
use Rattle.std.specs.HashMap.{get}
use Rattle.stack_code.specs.valid_code.Private.Tables.{numbers_of, conformers}
use Rattle.stack_code.proofs.valid_code.tables.conformers.Given as goal

abbrev pub invariant-entries : goal.invariant-entries
invariant-entries l = (q : ℕ) → numbers_of (get nat_eq l.found q) ++ conformers (drop l.entry-index l.table) q ≡ conformers l.table q
