use Rattle.std.proofs.Common.{◌∙◌}
use Rattle.iface_tables.proofs.DeclarerLaws.{method_found}
use Rattle.iface_tables.proofs.tables.IfaceTables.prototype_of.Goals as goal

pub returns : goal.returns
returns c =
    let i = c.self.inside in
    rw (← c.self.view_is) (c.method_named.ensures ∙ method_found i.classes i.prototypes i.declarers c.self.invariant c.args.interface c.args.name.now)
