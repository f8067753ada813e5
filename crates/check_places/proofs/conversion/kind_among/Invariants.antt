use Rattle.std.proofs.Common.{◌≡◌, drop}
use Rattle.st_rules.specs.Calls.{kind_named}
use Rattle.check_places.proofs.conversion.kind_among.Given as goal

abbrev pub invariant-loop-kind : goal.invariant-loop-kind
invariant-loop-kind l = kind_named l.text (drop l.kind-index l.kinds) ≡ kind_named l.text l.kinds
