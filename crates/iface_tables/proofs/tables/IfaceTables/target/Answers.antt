use Rattle.std.proofs.Common.{◌∙◌, ap}
use Rattle.iface_tables.specs.Private.Targets as targets
use Rattle.iface_tables.proofs.TargetLaws.{target-same}
use Rattle.iface_tables.proofs.tables.IfaceTables.target.Goals as goal

pub returns : goal.returns
returns c =
    let i = c.self.inside in
    rw (← c.self.view_is)
    (c.target.ensures ∙ ap (λ ps. targets.target i.classes ps c.args.class c.args.interface c.args.method) c.as_slice.ensures ∙ target-same i.classes i.prototypes c.self.invariant.names c.args.class c.args.interface c.args.method)
