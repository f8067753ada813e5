use Rattle.std.proofs.Common.{◌∙◌}
use Rattle.st_rules.specs.Classes.{classes_in}
use Rattle.st_rules.specs.Interfaces.{interfaces_in}
use Rattle.class_tables.proofs.TableLaws.{extended-same}
use Rattle.class_tables.proofs.tables.ClassTables.extended.Goals as goal

pub returns : goal.returns
returns c =
    let i = c.self.inside in
    rw (← c.self.view_is) (c.extended.ensures ∙ extended-same (classes_in i.of.value.decls) (interfaces_in i.of.value.decls) i.names i.rows i.settled i.reach.items c.self.invariant c.args.interface)
