use Rattle.std.proofs.Common.{◌≡◌, ◌≤◌, ◌<◌, length, ap, ◌∙◌, subst, arith}
use Rattle.st_values.specs.View.{program_of}
use Rattle.mem_layout.specs.initial_images.Private.Images.{AreBegun}
use Rattle.mem_layout.proofs.initial_images.ImageLaws.{none_begun, next_begun, all_begun}
use Rattle.mem_layout.proofs.initial_images.images.initial_images.Goals as goal

pub loop-region-init : goal.loop-region-init
loop-region-init c = none_begun (program_of c.args.layout.now) c.as_slice-decls.result.now c.in_ok-images.images c.in-Ok.count c.in-Ok.ensures.1 c.in_ok-images.ensures

pub put-requires : goal.put-requires
put-requires c =
    let count : c.in-Ok.count ≡ length c.as_slice-decls.result.now = c.in-Ok.ensures.1 in
    let lt = c.loop-region-test.true in
    let here : c.loop-region.region < length c.as_slice-decls.result.now = omega (arith, count, lt) in
    c.loop-region.invariant.left c.loop-region.region (omega arith) here

pub loop-region-preserved : goal.loop-region-preserved
loop-region-preserved c =
    let count : c.in-Ok.count ≡ length c.as_slice-decls.result.now = c.in-Ok.ensures.1 in
    let lt = c.loop-region-test.true in
    let here : c.loop-region.region < length c.as_slice-decls.result.now = omega (arith, count, lt) in
    next_begun (program_of c.args.layout.now) c.as_slice-decls.result.now c.loop-region.region c.loop-region.images c.put.new.self c.index-decls-region.result c.in_ok-image.image
    c.loop-region.invariant here c.index-decls-region.is c.in_ok-image.ensures c.put.ensures

pub returns-clause-initial : goal.returns-clause-initial
returns-clause-initial c = λ has starts.
    let count : c.in-Ok.count ≡ length c.as_slice-decls.result.now = c.in-Ok.ensures.1 in
    let done = c.loop-region-test.false in
    let all : length c.as_slice-decls.result.now ≤ c.loop-region.region = omega (arith, count, done) in
    let whole = subst (λ ds. AreBegun (program_of c.args.layout.now) ds c.loop-region.region c.loop-region.images) c.as_slice-decls.ensures c.loop-region.invariant in
    let own = subst (λ q. AreBegun (program_of q) c.args.p.now.regions c.loop-region.region c.loop-region.images) c.requires whole in
    all_begun c.args.p.now c.loop-region.region c.loop-region.images own (subst (λ ds. length ds ≤ c.loop-region.region) c.as_slice-decls.ensures all) has starts

pub returns-clause-long : goal.returns-clause-long
returns-clause-long c = c.loop-region.invariant.long ∙ ap length c.as_slice-decls.ensures
