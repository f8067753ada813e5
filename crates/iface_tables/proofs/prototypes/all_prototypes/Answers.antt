use Rattle.iface_tables.proofs.PrototypeLaws.{prototypes_step, prototypes_end}
use Rattle.iface_tables.proofs.prototypes.all_prototypes.Goals as goal

pub loop-decl-preserved : goal.loop-decl-preserved
loop-decl-preserved g c =
    prototypes_step c.args.decls.now c.loop-decl.decl-index c.decl-item.result c.loop-decl.all _ c.loop-decl-test.true c.decl-item.is c.loop-decl.invariant c.in_ok-add_names.ensures

pub returns : goal.returns
returns g c = prototypes_end c.args.decls.now c.loop-decl.decl-index c.loop-decl.all c.loop-decl-test.false c.loop-decl.invariant
