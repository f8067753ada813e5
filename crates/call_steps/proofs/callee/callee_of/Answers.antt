use Rattle.std.proofs.Common.{sym, ◌∙◌}
use Rattle.st_tree.specs.Expression.{selectors_of}
use Rattle.call_steps.proofs.CalleeLaws.{behind_selectors}
use Rattle.call_steps.proofs.callee.callee_of.Goals as goal

pub returns-else-is_last : goal.returns-else-is_last
returns-else-is_last c = c.place_callee.ensures ∙ sym (behind_selectors c.args.root.now (selectors_of c.args.selectors.now) (sym c.if-is_last.false ∙ c.is_last.ensures))
