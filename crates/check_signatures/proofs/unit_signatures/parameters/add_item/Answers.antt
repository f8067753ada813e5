use Rattle.check_signatures.proofs.unit_signatures.ParameterLaws.{item_added}
use Rattle.check_signatures.proofs.unit_signatures.parameters.add_item.Goals as goal

pub returns : goal.returns
returns c = item_added _ _ _ _ _ _ _ c.args.item.now _ _ _ c.in_ok-kind.ensures c.in_ok-initial.ensures c.as_slice.ensures c.in_ok-add_names.ensures
