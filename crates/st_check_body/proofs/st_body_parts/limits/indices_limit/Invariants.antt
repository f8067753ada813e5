use Rattle.std.proofs.Common.{◌≡◌, drop}
use Rattle.st_tree.specs.Expression.{expressions_of}
use Rattle.st_rules.specs.Faults.{least, earlier}
use Rattle.st_rules.specs.Statements.{index_limits}
use Rattle.st_check_body.proofs.st_body_parts.limits.indices_limit.Given as goal

abbrev pub invariant-loop-index : goal.invariant-loop-index
invariant-loop-index l = earlier l.found (least (index_limits (expressions_of (drop l.index-index l.indices)))) ≡ least (index_limits (expressions_of l.indices))
