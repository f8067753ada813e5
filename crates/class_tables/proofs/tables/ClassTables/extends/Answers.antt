use Rattle.std.proofs.Common.{◌∙◌, ap}
use Rattle.st_rules.specs.Classes.{classes_in}
use Rattle.st_rules.specs.Interfaces.{interfaces_in}
use Rattle.class_tables.specs.Private.Found as found
use Rattle.class_tables.proofs.TableLaws.{extends_found}
use Rattle.class_tables.proofs.tables.ClassTables.extends.Goals as goal

pub returns : goal.returns
returns c =
    let i = c.self.inside in
    rw (← c.self.view_is) (c.extends.ensures ∙ ap (λ rs. found.extends i.rows rs c.args.interface c.args.other) c.deref.ensures.value
    ∙ extends_found (classes_in i.of.value.decls) (interfaces_in i.of.value.decls) i.names i.rows i.settled i.reach.items c.self.invariant c.args.interface c.args.other)
