use Rattle.std.proofs.Common.{◌≡◌, drop}
use Rattle.st_rules.specs.Calls.{conversion_among}
use Rattle.check_places.proofs.conversion.conversion_among.Given as goal

abbrev pub invariant-loop-kind : goal.invariant-loop-kind
invariant-loop-kind l = conversion_among l.text (drop l.kind-index l.kinds) ≡ conversion_among l.text l.kinds
