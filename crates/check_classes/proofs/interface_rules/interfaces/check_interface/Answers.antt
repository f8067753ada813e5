use Rattle.check_classes.proofs.interface_rules.InterfaceLaws.{interface_found}
use Rattle.check_classes.proofs.interface_rules.interfaces.check_interface.Goals as goal

pub returns : goal.returns
returns c =
    interface_found c.args.tables.now _ _ _ c.args.number c.args.interface.now _ _ _ _ _ _ _ c.requires c.class_tables.ensures c.interface_tables.ensures c.in_ok-name.ensures c.in_ok-names.ensures c.as_slice.ensures c.in_ok-bases.ensures c.as_slice-2.ensures c.in_ok-methods.ensures
    c.broken_interface-cycle.ensures c.count_fault-counts.ensures c.interface_of.ensures
