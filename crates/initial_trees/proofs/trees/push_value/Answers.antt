use Rattle.initial_trees.proofs.ListLaws.{pushed_value}
use Rattle.initial_trees.proofs.trees.push_value.Goals as goal

pub returns : goal.returns
returns c = pushed_value c.push.result _ _ c.args.value c.push.ensures.ok
