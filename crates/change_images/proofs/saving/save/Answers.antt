use Rattle.std.proofs.Common.{◌≡◌, ◌<◌, length, sym, ap, subst, ◌∙◌, arith}
use Rattle.std.specs.Prelude.{slice_get}
use Rattle.change_images.specs.Apply.{IsAlike}
use Rattle.change_images.proofs.Steps.{save_begun, save_next, save_ended, SavedBelow}
use Rattle.change_images.proofs.saving.save.Goals as goal

pub loop-region-init : goal.loop-region-init
loop-region-init c = save_begun c.args.olds.now c.args.saved.now c.requires

pub save_region-requires-clause-alike : goal.save_region-requires-clause-alike
save_region-requires-clause-alike c =
    let r = c.loop-region.region in
    let lt : r < length c.args.olds.now = omega (arith, c.loop-region-test.true, c.len-count.ensures) in
    subst (IsAlike (slice_get c.args.olds.now r)) (sym (c.loop-region.invariant.above r (omega arith))) (c.requires.by r lt)

pub loop-region-preserved : goal.loop-region-preserved
loop-region-preserved c =
    let lt : c.loop-region.region < length c.args.olds.now = omega (arith, c.loop-region-test.true, c.len-count.ensures) in
    save_next c.args.olds.now c.args.saved.now c.loop-region.saved c.save_region.new.saved c.loop-region.region lt c.loop-region.invariant c.save_region.ensures

pub returns : goal.returns
returns c =
    let all : c.loop-region.region ≡ length c.args.olds.now = omega (arith, c.loop-region-test.false, c.loop-region.auto.region-end, c.len-count.ensures) in
    save_ended c.args.olds.now c.args.saved.now c.loop-region.saved (subst (λ r. SavedBelow c.args.olds.now c.args.saved.now r c.loop-region.saved) all c.loop-region.invariant)
