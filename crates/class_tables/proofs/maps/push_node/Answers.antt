use Rattle.class_tables.proofs.MapLaws.{keeps_push_if}
use Rattle.class_tables.proofs.maps.push_node.Goals as goal

pub returns-clause-keeps : goal.returns-clause-keeps
returns-clause-keeps c = keeps_push_if _ _ c.args.node _ c.push.ensures.items
