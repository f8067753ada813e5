use Rattle.std.proofs.Common.{drop}
use Rattle.st_tree.specs.Initial.{parts_of}
use Rattle.check_initial_values.specs.Lent.{lent}
use Rattle.check_initial_values.specs.Private.Lists.{PartsLeft, FieldsTo}
use Rattle.check_initial_values.proofs.walk.+initial.Given as goal

abbrev pub invariant-check_parts-loop-part : goal.invariant-check_parts-loop-part
invariant-check_parts-loop-part l = PartsLeft l.so_far l.s (lent l.kind) (parts_of (drop l.part-index l.parts)) (parts_of l.parts)

abbrev pub invariant-check_fields-loop-field : goal.invariant-check_fields-loop-field
invariant-check_fields-loop-field l = FieldsTo l.so_far l.before l.s (lent l.kind) l.fields l.field-index
