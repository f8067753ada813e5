use Rattle.std.proofs.Common.{◌∙◌}
use Rattle.iface_tables.proofs.TargetLaws.{interface_faults-same}
use Rattle.iface_tables.proofs.tables.IfaceTables.broken_interface.Goals as goal

pub returns : goal.returns
returns c = rw (← c.self.view_is) (c.interface_fault.ensures ∙ interface_faults-same c.self.inside.classes c.args.interface)
