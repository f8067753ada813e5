use Rattle.std.proofs.Common.{◌∙◌}
use Rattle.st_values.specs.View.{program_of}
use Rattle.shape_trees.specs.Shape.{shape_of}
use Rattle.value_trees.specs.Value.{value_of, members_of}
use Rattle.change_carry.proofs.StoreLaws.{no_old_region, no_old_shape, no_old_value}
use Rattle.change_carry.proofs.store.carry_value.Goals as goal

pub returns-in_default-region_before : goal.returns-in_default-region_before
returns-in_default-region_before c = no_old_region (program_of c.args.c.now.old.program.now) (program_of c.args.c.now.new.program.now) c.args.keeping (members_of c.args.before.now) c.args.region (value_of c.args.held.now) c.in_default-region_before.ensures

pub returns-in_default-region_shape : goal.returns-in_default-region_shape
returns-in_default-region_shape c =
    no_old_shape (program_of c.args.c.now.old.program.now) (program_of c.args.c.now.new.program.now) c.args.keeping (members_of c.args.before.now) c.args.region (value_of c.args.held.now) c.in-Some-region_before.number c.in-Some-region_before.ensures
    (c.in_default-region_shape.ensures ∙ c.requires.old_shapes.by c.in-Some-region_before.number)

pub returns-in_default-value_in : goal.returns-in_default-value_in
returns-in_default-value_in c =
    no_old_value (program_of c.args.c.now.old.program.now) (program_of c.args.c.now.new.program.now) c.args.keeping (members_of c.args.before.now) c.args.region (value_of c.args.held.now) c.in-Some-region_before.number c.in-Some-region_before.ensures (shape_of c.in-Some-region_shape.old_shape.now)
    (c.in-Some-region_shape.ensures ∙ c.requires.old_shapes.by c.in-Some-region_before.number) c.in_default-value_in.ensures
