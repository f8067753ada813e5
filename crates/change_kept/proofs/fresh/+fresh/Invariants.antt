use Rattle.std.proofs.Common.{◌≡◌, drop}
use Rattle.st_change.specs.Counterpart.{a_field_is_fresh}
use Rattle.shape_trees.specs.Shape.{fields_of}
use Rattle.change_kept.proofs.fresh.+fresh.Given as goal

abbrev pub invariant-a_field_is_fresh-loop-field : goal.invariant-a_field_is_fresh-loop-field
invariant-a_field_is_fresh-loop-field l = a_field_is_fresh (fields_of (drop l.field-index l.fields)) ≡ a_field_is_fresh (fields_of l.fields)
