use Rattle.std.proofs.Common.{◌+◌, ◌*◌}
use Rattle.st_values.specs.View.{program_of}
use Rattle.reference_start.proofs.InstanceLaws.{ElementsLeft, FieldsLeft}
use Rattle.reference_start.proofs.instances.+instances.Given as goal

abbrev pub decreases-push_type : goal.decreases-push_type
decreases-push_type l = 2 * l.depth

abbrev pub decreases-push_elements : goal.decreases-push_elements
decreases-push_elements l = 2 * l.depth + 1

abbrev pub decreases-push_fields : goal.decreases-push_fields
decreases-push_fields l = 2 * l.depth + 1

abbrev pub decreases-push_elements-elements : goal.decreases-push_elements-elements
decreases-push_elements-elements l = l.left

abbrev pub invariant-push_elements-elements : goal.invariant-push_elements-elements
invariant-push_elements-elements l = ElementsLeft (program_of l.program) l.depth l.of l.path l.low l.index l.end l.left l.fn.found.items l.found.items

abbrev pub invariant-push_fields-loop-k : goal.invariant-push_fields-loop-k
invariant-push_fields-loop-k l = FieldsLeft (program_of l.program) l.depth l.variable-items l.path l.k l.fn.found.items l.found.items
