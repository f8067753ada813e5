use Rattle.std.proofs.Common.{◌≡◌, drop}
use Rattle.st_rules.specs.Interfaces.{interfaces_in, first_with}
use Rattle.iface_tables.specs.Private.Declarers.{has_one}
use Rattle.iface_tables.proofs.declarers.first_with.Given as goal

abbrev pub invariant-loop-place : goal.invariant-loop-place
invariant-loop-place l = first_with (has_one (interfaces_in l.classes.decls) l.ids) (drop l.place l.interfaces) ≡ first_with (has_one (interfaces_in l.classes.decls) l.ids) l.interfaces
