use Rattle.std.proofs.Common.{ℕ, List, length, ◌∙◌, ap}
use Rattle.st_rules.specs.Faults.{least}
use Rattle.iface_tables.specs.Private.Broken as broken
use Rattle.iface_tables.proofs.TargetLaws.{as_many, class_faults-same}
use Rattle.iface_tables.proofs.tables.IfaceTables.broken_class.Goals as goal

pub class_fault-requires : goal.class_fault-requires
class_fault-requires g c = ap (λ (ps : List (List (List ℕ))). length ps) c.as_slice.ensures ∙ as_many c.self.inside.classes c.self.inside.prototypes c.self.invariant.names

pub returns : goal.returns
returns g c =
    let i = c.self.inside in
    rw (← c.self.view_is)
    (c.class_fault.ensures ∙ ap (λ ps. least (broken.class_faults g.V.PartialEq.eq i.classes ps c.args.signatures.now c.args.class)) c.as_slice.ensures
    ∙ class_faults-same i.classes i.prototypes c.self.invariant.names g.V.PartialEq.eq c.args.signatures.now c.args.class)
