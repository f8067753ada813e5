use Rattle.check_regions.proofs.unit_regions.ListedLaws.{next}
use Rattle.check_regions.proofs.unit_regions.listed.list_regions.Goals as goal

pub loop-decl-preserved : goal.loop-decl-preserved
loop-decl-preserved c =
    next c.args.decls.now c.loop-decl.list.items c.add_regions.new.list.items c.loop-decl.decl-index c.loop-decl.first c.is_still_first-first.result c.decl-item.result
    c.loop-decl-test.true c.decl-item.is c.loop-decl.invariant c.in_ok-add_regions.ensures c.is_still_first-first.ensures
