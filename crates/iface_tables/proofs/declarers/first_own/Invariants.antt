use Rattle.std.proofs.Common.{◌≡◌, drop}
use Rattle.std.specs.Prelude.{nat_eq}
use Rattle.iface_tables.specs.Private.Declarers.{first_of}
use Rattle.iface_tables.proofs.declarers.first_own.Given as goal

abbrev pub invariant-loop-place : goal.invariant-loop-place
invariant-loop-place l = first_of (λ j. nat_eq j l.interface) (drop l.place l.ids) ≡ first_of (λ j. nat_eq j l.interface) l.ids
