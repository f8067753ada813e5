use Rattle.std.proofs.Common.{◌≡◌, drop}
use Rattle.st_tree.specs.Expression.{expressions_of}
use Rattle.st_rules.specs.Faults.{least}
use Rattle.st_rules.specs.Places.{indices_on_no_array, count_expressions, standing_type}
use Rattle.check_places.specs.Standing.{standing}
use Rattle.check_places.specs.Private.Indices.{indexing}
use Rattle.check_places.proofs.indices.indices_fault.Given as goal

-- what was broken so far, and what the rest breaks, is what all break
abbrev pub invariant-indices : goal.invariant-indices
invariant-indices l = indexing l.line l.so_far (count_expressions (expressions_of (drop l.index l.indices))) ≡ least (indices_on_no_array l.line (count_expressions (expressions_of l.indices)) (standing_type (standing l.b)))
