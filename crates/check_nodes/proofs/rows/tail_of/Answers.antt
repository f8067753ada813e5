use Rattle.st_tree.specs.Expression.{tail_of-is}
use Rattle.check_nodes.proofs.rows.tail_of.Goals as goal

pub returns : goal.returns
returns c = tail_of-is _
