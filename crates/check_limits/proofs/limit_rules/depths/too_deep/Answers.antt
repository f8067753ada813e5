use Rattle.st_unit_rules.specs.declared_names.Declarations.{declarations}
use Rattle.check_limits.proofs.limit_rules.DepthLaws.{depth_told}
use Rattle.check_limits.proofs.limit_rules.depths.too_deep.Goals as goal

pub returns : goal.returns
returns c = λ s m h.
    depth_told c.args.within s (declarations c.args.graph.now.decls) c.args.line c.args.spec.now c.args.told.now c.told_has_more-deep.result c.is_endless-endless.result c.is_bad.result c.when.result h (c.told_has_more-deep.ensures s m)
    (c.is_endless-endless.ensures s) c.is_bad.ensures c.when.ensures
