use Rattle.reference_change.proofs.changed.change_by.Goals as goal

pub change_with-requires-clause-change : goal.change_with-requires-clause-change
change_with-requires-clause-change c = record {
  old_side = c.requires.old_side;
  new_side = c.requires.new_side;
  old_shapes = c.requires.old_shapes;
  new_shapes = c.requires.new_shapes;
  names = c.requires.names;
  old_numbers = c.requires.old_numbers;
  new_numbers = c.requires.new_numbers;
}
