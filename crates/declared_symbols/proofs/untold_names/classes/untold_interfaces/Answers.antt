use Rattle.std.proofs.Common.{refl}
use Rattle.declared_symbols.specs.untold_names.Untold.{untold_interfaces}
use Rattle.declared_symbols.proofs.untold_names.StepLaws.{split_next, split_ended, interfaces_split}
use Rattle.declared_symbols.proofs.untold_names.classes.untold_interfaces.Goals as goal

pub loop-decl-preserved : goal.loop-decl-preserved
loop-decl-preserved c =
    split_next untold_interfaces interfaces_split c.args.decls.now c.loop-decl.decl-index c.decl-item.result c.loop-decl.list _ c.loop-decl-test.true c.decl-item.is c.in_ok-add_interface.ensures c.loop-decl.invariant

pub returns : goal.returns
returns c = split_ended untold_interfaces refl c.args.decls.now c.loop-decl.decl-index c.loop-decl.list c.loop-decl-test.false c.loop-decl.invariant
