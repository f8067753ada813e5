use Rattle.std.proofs.Common.{◌≡◌, ◌≤◌, ◌++◌, length, take, drop}
use Rattle.st_tree.specs.Initial.{parts_of}
use Rattle.st_values.specs.Initial.{listed}
use Rattle.program_tables.specs.st_initial.Given.{inits_of}
use Rattle.program_tables.proofs.st_initial.given.elements_given.Given as goal

-- what was added, and what the rest gives, is the whole
abbrev pub invariant-loop-part : goal.invariant-loop-part
invariant-loop-part l =
    (length l.out.items ≤ l.limit) × (take l.limit (inits_of l.out.items ++ listed (parts_of (drop l.part-index l.part-items))) ≡ take l.limit (listed (parts_of l.part-items)))
