use Rattle.std.proofs.Common.{◌≡◌, map, take}
use Rattle.st_rules.specs.Interfaces.{interfaces_in, prototype_names}
use Rattle.iface_tables.proofs.prototypes.all_prototypes.Given as goal

abbrev pub invariant-loop-decl : goal.invariant-loop-decl
invariant-loop-decl g l = l.all ≡ map prototype_names (interfaces_in (take l.decl-index l.decls))
