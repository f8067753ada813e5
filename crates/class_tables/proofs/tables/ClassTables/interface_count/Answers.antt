use Rattle.class_tables.proofs.tables.ClassTables.interface_count.Goals as goal

pub returns : goal.returns
returns c = rw (← c.self.view_is) c.self.invariant.interface_names.count
