use Rattle.check_classes.proofs.interface_rules.InterfaceLaws.{counts_found}
use Rattle.check_classes.proofs.interface_rules.interfaces.count_fault.Goals as goal

pub returns : goal.returns
returns c = counts_found c.args.heights.now.decls c.args.number c.args.interface.now _ _ _ _ c.as_slice.ensures c.methods_fault-methods.ensures c.too_many_above-above.ensures c.earlier.ensures
