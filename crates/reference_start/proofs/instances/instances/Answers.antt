use Rattle.std.proofs.Common.{List, ◌<◌, length, get_or, refl, ap, ◌∙◌, subst}
use Rattle.st_tree.specs.declared.path.Path.{Path}
use Rattle.st_tree.specs.declared.program.RegionDecl.{RegionDecl}
use Rattle.st_values.specs.View.{program_of}
use Rattle.reference_start.specs.Private.Instances.{AddsType}
use Rattle.reference_start.proofs.RegionLaws.{regions_next, whole_is}
use Rattle.reference_start.proofs.instances.instances.Goals as goal

pub loop-r-preserved : goal.loop-r-preserved
loop-r-preserved c =
    regions_next c.args.program.now 65 c.loop-r.r c.decl-item.result c.loop-r.found.items c.push_type.new.found.items refl
    (subst (λ (ds : List RegionDecl). c.loop-r.r < length ds) c.as_slice-decl-items.ensures c.loop-r-test.true)
    (c.decl-item.is ∙ ap (λ ds. get_or ds c.loop-r.r c.decl-item.result) c.as_slice-decl-items.ensures) c.loop-r.invariant
    (subst (λ (q : Path). AddsType (program_of c.args.program.now) 65 c.decl-item.result.kind q c.loop-r.found.items c.push_type.new.found.items)
    (whole_is c.in_ok-region.region c.loop-r.r c.new-steps.result c.in_ok-region.ensures c.new-steps.ensures) c.in_ok-push_type.ensures)
