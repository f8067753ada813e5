use Rattle.std.proofs.Common.{◌≡◌, drop}
use Rattle.st_values.specs.Shape.{a_field_has_instance}
use Rattle.shape_trees.specs.Shape.{fields_of}
use Rattle.shape_trees.proofs.instances.+instances.Given as goal

abbrev pub invariant-a_field_has_instance-loop-field : goal.invariant-a_field_has_instance-loop-field
invariant-a_field_has_instance-loop-field l = a_field_has_instance (fields_of (drop l.field-index l.fields)) ≡ a_field_has_instance (fields_of l.fields)
