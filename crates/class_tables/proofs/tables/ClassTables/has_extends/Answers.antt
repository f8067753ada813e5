use Rattle.std.proofs.Common.{◌∙◌}
use Rattle.st_rules.specs.Classes.{classes_in}
use Rattle.st_rules.specs.Interfaces.{interfaces_in}
use Rattle.class_tables.proofs.TableLaws.{extends_there}
use Rattle.class_tables.proofs.tables.ClassTables.has_extends.Goals as goal

pub returns : goal.returns
returns c =
    let i = c.self.inside in
    rw (← c.self.view_is) (c.has_extends.ensures ∙ extends_there (classes_in i.of.value.decls) (interfaces_in i.of.value.decls) i.names i.rows i.settled i.reach.items c.self.invariant c.args.class)
