use Rattle.std.proofs.Common.{◌<◌, ◌≤◌, List, length, get_or, ap, ◌∙◌, subst}
use Rattle.st_tree.specs.declared.program.RegionDecl.{RegionDecl}
use Rattle.shape_trees.proofs.RegionLaws.{one_shaped, all_shaped}
use Rattle.shape_trees.proofs.unfolding.region_shapes.Goals as goal

pub loop-decl-preserved : goal.loop-decl-preserved
loop-decl-preserved c =
    one_shaped c.args.program.now c.loop-decl.decl-index c.loop-decl.all c.push.new.self c.decl-item.result c.in_ok-shape.shape
    (subst (λ (ds : List RegionDecl). c.loop-decl.decl-index < length ds) c.as_slice-decl-items.ensures c.loop-decl-test.true)
    (c.decl-item.is ∙ ap (λ ds. get_or ds c.loop-decl.decl-index c.decl-item.result) c.as_slice-decl-items.ensures) c.loop-decl.invariant c.in_ok-push.ensures.ok c.in_ok-shape.ensures

pub returns : goal.returns
returns c = all_shaped c.args.program.now c.loop-decl.decl-index c.loop-decl.all (subst (λ (ds : List RegionDecl). length ds ≤ c.loop-decl.decl-index) c.as_slice-decl-items.ensures c.loop-decl-test.false) c.loop-decl.invariant
