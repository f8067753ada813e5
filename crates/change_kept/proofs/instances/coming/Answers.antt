use Rattle.std.proofs.Common.{ap, ◌∙◌}
use Rattle.std.specs.Prelude.{not}
use Rattle.st_change.specs.Counterpart.{kept}
use Rattle.st_values.specs.View.{program_of}
use Rattle.change_kept.specs.declared.instances.Owner.TheVariants as owner
use Rattle.change_kept.proofs.InstanceLaws.{regions_next, regions_within}
use Rattle.change_kept.proofs.instances.coming.Goals as goal

pub loop-r-preserved : goal.loop-r-preserved
loop-r-preserved c =
    regions_next (program_of c.args.c.now.new.program.now) (λ r. not (kept (program_of c.args.c.now.old.program.now) (program_of c.args.c.now.new.program.now) r)) owner.Last c.loop-r.r c.in_ok-region.region (not c.is_set-wanted.result) c.args.c.now.new_shapes.now.list c.loop-r.found.items c.push_region.new.found.items
    (regions_within c.args.c.now.new.program.now c.loop-r.r c.len-r-end.result c.loop-r-test.true c.len-r-end.ensures) c.in_ok-region.ensures (ap not (c.is_set-wanted.ensures ∙ c.requires.are_kept.by c.in_ok-region.region)) c.requires.change.new_shapes c.loop-r.invariant c.in_ok-push_region.ensures
