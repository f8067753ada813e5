use Rattle.std.proofs.Common.{◌∙◌, ap}
use Rattle.std.specs.Map.{keys_of}
use Rattle.st_rules.specs.Faults.{least}
use Rattle.st_rules.specs.Classes.{classes_in}
use Rattle.st_rules.specs.Interfaces.{interfaces_in}
use Rattle.class_tables.specs.Private.Broken as broken
use Rattle.class_tables.proofs.BrokenLaws.{class_faults-same}
use Rattle.class_tables.proofs.tables.ClassTables.broken.Goals as goal

pub returns : goal.returns
returns g c =
    let i = c.self.inside in
    rw (← c.self.view_is)
    (c.class_fault.ensures ∙ ap (λ rs. least (broken.class_faults g.V.PartialEq.eq (keys_of i.names.methods) rs i.settled c.args.signatures.now c.args.class)) c.as_slice.ensures
    ∙ class_faults-same (classes_in i.of.value.decls) (interfaces_in i.of.value.decls) i.names i.rows i.settled i.reach.items c.self.invariant g.V.PartialEq.eq c.args.signatures.now c.args.class)
