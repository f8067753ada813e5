use Rattle.change_kept.proofs.InstanceLaws.{ElementsLeft, FieldsLeft}
use Rattle.change_kept.proofs.instances.+instances.Given as goal

abbrev pub decreases-push_elements-elements : goal.decreases-push_elements-elements
decreases-push_elements-elements l = l.left

abbrev pub invariant-push_elements-elements : goal.invariant-push_elements-elements
invariant-push_elements-elements l = ElementsLeft l.owner l.element l.path l.low l.index l.count l.left l.fn.found.items l.found.items

abbrev pub invariant-push_fields-loop-k : goal.invariant-push_fields-loop-k
invariant-push_fields-loop-k l = FieldsLeft l.owner l.fields l.path l.k l.fn.found.items l.found.items
