use Rattle.std.proofs.Common.{◌≡◌, ◌++◌, drop}
use Rattle.st_tree.specs.Initial.{parts_of, fields_of}
use Rattle.st_unit_rules.specs.Cycles.{named_in_parts, named_in_fields}
use Rattle.declared_graph.specs.Private.Names.{all_named}
use Rattle.declared_graph.proofs.texts.+values.Given as goal

abbrev pub invariant-add_parts-loop-part : goal.invariant-add_parts-loop-part
invariant-add_parts-loop-part l = all_named l.list.items ++ named_in_parts (parts_of (drop l.part-index l.parts)) ≡ all_named l.initial.list.items ++ named_in_parts (parts_of l.parts)

abbrev pub invariant-add_fields-loop-field : goal.invariant-add_fields-loop-field
invariant-add_fields-loop-field l = all_named l.list.items ++ named_in_fields (fields_of (drop l.field-index l.fields)) ≡ all_named l.initial.list.items ++ named_in_fields (fields_of l.fields)
