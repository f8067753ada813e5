use Rattle.std.proofs.Common.{◌≡◌, drop}
use Rattle.st_tree.specs.Expression.{expressions_of}
use Rattle.st_rules.specs.Places.{indexed, count_expressions, standing_type}
use Rattle.check_places.specs.Standing.{standing}
use Rattle.check_places.proofs.indices.indexed.Given as goal

-- what is left, from where the indices so far lead to, leads where all do
abbrev pub invariant-indices : goal.invariant-indices
invariant-indices l = indexed (count_expressions (expressions_of (drop l.index l.indices))) (standing_type (standing l.at)) ≡ indexed (count_expressions (expressions_of l.indices)) (standing_type (standing l.fn.b))
