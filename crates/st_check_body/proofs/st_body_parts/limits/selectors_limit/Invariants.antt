use Rattle.std.proofs.Common.{◌≡◌, drop}
use Rattle.st_tree.specs.Expression.{selectors_of}
use Rattle.st_rules.specs.Faults.{least, earlier}
use Rattle.st_rules.specs.Statements.{selector_limits}
use Rattle.st_check_body.proofs.st_body_parts.limits.selectors_limit.Given as goal

abbrev pub invariant-loop-selector : goal.invariant-loop-selector
invariant-loop-selector l = earlier l.found (least (selector_limits (selectors_of (drop l.selector-index l.selectors)))) ≡ least (selector_limits (selectors_of l.selectors))
