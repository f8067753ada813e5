use Rattle.std.proofs.Common.{[], true, sym, ap, ◌∙◌}
use Rattle.std.specs.Prelude.{if◌then◌else◌}
use Rattle.st_tree.specs.Expression.{selectors_of}
use Rattle.st_rules.specs.Faults.{least}
use Rattle.st_rules.specs.Places.{root_faults}
use Rattle.st_rules.specs.Expressions.{called_root_faults}
use Rattle.check_calls.proofs.callee.called_root_fault.Goals as goal

pub returns-then-is_conversion : goal.returns-then-is_conversion
unfolding called_root_faults
returns-then-is_conversion c = ap (λ t. least (if t then [] else root_faults c.args.s.now true c.args.root.now (selectors_of c.args.selectors.now))) (sym c.if-is_conversion.true ∙ c.is_conversion.ensures c.args.s.now)

pub returns-else-is_conversion : goal.returns-else-is_conversion
unfolding called_root_faults
returns-else-is_conversion c = c.root_fault.ensures ∙ ap (λ t. least (if t then [] else root_faults c.args.s.now true c.args.root.now (selectors_of c.args.selectors.now))) (sym c.if-is_conversion.false ∙ c.is_conversion.ensures c.args.s.now)
