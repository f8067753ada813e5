use Rattle.std.proofs.Common.{◌≡◌, map, take}
use Rattle.iface_tables.proofs.prototypes.names_of.Given as goal

abbrev pub invariant-loop-prototype : goal.invariant-loop-prototype
invariant-loop-prototype g l = l.names ≡ map (λ m. m.name.text) (take l.prototype-index l.prototype-items)
