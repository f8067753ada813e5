use Rattle.std.proofs.Common.{◌∙◌}
use Rattle.st_rules.specs.Classes.{classes_in}
use Rattle.st_rules.specs.Interfaces.{interfaces_in}
use Rattle.class_tables.proofs.TableLaws.{public_found}
use Rattle.class_tables.proofs.tables.ClassTables.is_public.Goals as goal

pub returns : goal.returns
returns c =
    let i = c.self.inside in
    rw (← c.self.view_is) (c.is_public.ensures ∙ public_found (classes_in i.of.value.decls) (interfaces_in i.of.value.decls) i.names i.rows i.settled i.reach.items c.self.invariant c.args.id)
