use Rattle.value_trees.specs.Value.{members_of}
use Rattle.reference_change.specs.Changed.{changed}
use Rattle.reference_change.proofs.ChangeLaws.{of_programs}
use Rattle.reference_change.proofs.changed.change_within.Goals as goal

pub returns : goal.returns
returns c =
    of_programs (changed c.in_ok-came.came) (members_of c.args.store.now) c.args.old.now.tables.now c.side_of-old_side.result.program.now c.args.new.now.tables.now c.side_of-new_side.result.program.now c.side_of-old_side.ensures.program c.side_of-new_side.ensures.program c.in_ok-came.ensures
