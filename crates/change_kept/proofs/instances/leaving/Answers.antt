use Rattle.std.specs.Prelude.{not}
use Rattle.st_change.specs.Counterpart.{was_kept}
use Rattle.st_values.specs.View.{program_of}
use Rattle.change_kept.specs.declared.instances.Owner.TheVariants as owner
use Rattle.change_kept.proofs.InstanceLaws.{regions_next, regions_within}
use Rattle.change_kept.proofs.instances.leaving.Goals as goal

pub loop-r-preserved : goal.loop-r-preserved
loop-r-preserved c =
    regions_next (program_of c.args.c.now.old.program.now) (λ r. not (was_kept (program_of c.args.c.now.old.program.now) (program_of c.args.c.now.new.program.now) r)) owner.First c.loop-r.r c.in_ok-region.region (c.is_left-wanted.result) c.args.c.now.old_shapes.now.list c.loop-r.found.items c.push_region.new.found.items
    (regions_within c.args.c.now.old.program.now c.loop-r.r c.len-r-end.result c.loop-r-test.true c.len-r-end.ensures) c.in_ok-region.ensures (c.is_left-wanted.ensures) c.requires.change.old_shapes c.loop-r.invariant c.in_ok-push_region.ensures
