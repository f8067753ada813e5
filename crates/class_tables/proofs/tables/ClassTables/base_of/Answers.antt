use Rattle.std.proofs.Common.{◌∙◌, ap}
use Rattle.st_rules.specs.Classes.{classes_in}
use Rattle.st_rules.specs.Interfaces.{interfaces_in}
use Rattle.class_tables.specs.Private.Chain.{base_in}
use Rattle.class_tables.proofs.TableLaws.{base_found}
use Rattle.class_tables.proofs.tables.ClassTables.base_of.Goals as goal

pub returns : goal.returns
returns c =
    let i = c.self.inside in
    rw (← c.self.view_is) (c.base.ensures ∙ ap (λ rs. base_in rs c.args.class) c.as_slice.ensures ∙ base_found (classes_in i.of.value.decls) (interfaces_in i.of.value.decls) i.names i.rows i.settled i.reach.items c.self.invariant c.args.class)
