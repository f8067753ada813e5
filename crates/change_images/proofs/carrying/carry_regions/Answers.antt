use Rattle.std.proofs.Common.{◌≡◌, ◌<◌, length, refl, sym, ap, subst, ◌∙◌, arith}
use Rattle.change_images.specs.Apply.{plan_of, SameLengths}
use Rattle.change_images.proofs.Steps.{CarriedBelow, carry_begun, carry_next, carry_ended, carried_lengths, lies_yet}
use Rattle.change_images.proofs.carrying.carry_regions.Goals as goal

pub loop-region-init : goal.loop-region-init
loop-region-init g c = carry_begun (g.R.Relocates.by c.args.relocation.now) c.args.olds.now (plan_of c.args.plan.now) c.args.news.now

pub carry_step-requires-clause-lies : goal.carry_step-requires-clause-lies
carry_step-requires-clause-lies g c =
    let lt : c.loop-region.region < length c.args.news.now = omega (arith, c.loop-region-test.true, c.len-count.ensures) in
    lies_yet (g.R.Relocates.by c.args.relocation.now) c.args.olds.now (plan_of c.args.plan.now) c.args.news.now c.loop-region.news c.loop-region.region c.requires lt c.loop-region.invariant

pub loop-region-preserved : goal.loop-region-preserved
loop-region-preserved g c =
    let lt : c.loop-region.region < length c.args.news.now = omega (arith, c.loop-region-test.true, c.len-count.ensures) in
    carry_next (g.R.Relocates.by c.args.relocation.now) c.args.olds.now (plan_of c.args.plan.now) c.args.news.now c.loop-region.news c.carry_step.new.news c.loop-region.region (plan_of c.args.plan.now c.loop-region.region) lt c.loop-region.invariant refl c.carry_step.ensures

pub returns-clause-lengths : goal.returns-clause-lengths
returns-clause-lengths g c =
    let all : c.loop-region.region ≡ length c.args.news.now = omega (arith, c.loop-region-test.false, c.loop-region.auto.region-end, c.len-count.ensures) in
    let is = carry_ended (g.R.Relocates.by c.args.relocation.now) c.args.olds.now (plan_of c.args.plan.now) c.args.news.now c.loop-region.news
    (subst (λ r. CarriedBelow (g.R.Relocates.by c.args.relocation.now) c.args.olds.now (plan_of c.args.plan.now) c.args.news.now r c.loop-region.news) all c.loop-region.invariant) in
    subst (SameLengths c.args.news.now) (sym is) (carried_lengths (g.R.Relocates.by c.args.relocation.now) (plan_of c.args.plan.now) c.args.olds.now c.args.news.now c.requires)

pub returns-clause-after : goal.returns-clause-after
returns-clause-after g c =
    let all : c.loop-region.region ≡ length c.args.news.now = omega (arith, c.loop-region-test.false, c.loop-region.auto.region-end, c.len-count.ensures) in
    carry_ended (g.R.Relocates.by c.args.relocation.now) c.args.olds.now (plan_of c.args.plan.now) c.args.news.now c.loop-region.news
    (subst (λ r. CarriedBelow (g.R.Relocates.by c.args.relocation.now) c.args.olds.now (plan_of c.args.plan.now) c.args.news.now r c.loop-region.news) all c.loop-region.invariant)
