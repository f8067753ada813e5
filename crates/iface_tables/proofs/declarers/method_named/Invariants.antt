use Rattle.std.proofs.Common.{◌≡◌, length}
use Rattle.st_rules.specs.Interfaces.{interfaces_in}
use Rattle.iface_tables.specs.Private.Declarers.{method_within, ids_in, method_named}
use Rattle.iface_tables.proofs.declarers.method_named.Given as goal

-- what is left of the way leads to the method
abbrev pub invariant-upward : goal.invariant-upward
invariant-upward l = method_within (interfaces_in l.classes.decls) l.ids l.left l.here ≡ method_named l.classes l.table l.interface l.name

abbrev pub decreases-upward : goal.decreases-upward
decreases-upward l = l.left
