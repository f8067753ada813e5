use Rattle.reference_change.proofs.changed.change_where.Goals as goal

pub change_of-requires : goal.change_of-requires
change_of-requires c = record {
  change = c.requires.change;
  are_kept = c.requires.are_kept;
  old_loaded = c.requires.old_loaded;
  new_loaded = c.requires.new_loaded;
  old_program = c.requires.old_program;
  new_program = c.requires.new_program;
}
