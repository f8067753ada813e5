use Rattle.std.proofs.Common.{sym}
use Rattle.check_nodes.proofs.LastLaws.{is_last-drop}
use Rattle.check_nodes.proofs.along.is_last_at.Goals as goal

pub returns : goal.returns
returns c = sym (is_last-drop c.args.selectors.now c.args.number c.requires)
