use Rattle.std.proofs.Common.{◌∙◌}
use Rattle.initial_trees.proofs.ListLaws.{pushed_member}
use Rattle.initial_trees.proofs.trees.push_member.Goals as goal

pub returns : goal.returns
returns c = pushed_member c.push.result _ _ _ c.args.name.now c.args.value (c.in_ok-name.ensures ∙ c.as_str.ensures) c.push.ensures.ok
