use Rattle.std.proofs.Common.{◌≡◌, ◌+◌, drop}
use Rattle.mem_layout.specs.loaded_meaning.Sized.{all_values_of}
use Rattle.shape_trees.specs.Shape.{fields_of}
use Rattle.list_report.proofs.values.+values.Given as goal

abbrev pub invariant-field_value_count-loop-field : goal.invariant-field_value_count-loop-field
invariant-field_value_count-loop-field l = l.all + all_values_of (fields_of (drop l.field-index l.fields)) ≡ all_values_of (fields_of l.fields)
