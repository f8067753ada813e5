use Rattle.std.proofs.Common.{◌≡◌, map, take}
use Rattle.st_rules.proofs.copies.texts.Given as goal

abbrev pub invariant-loop-name : goal.invariant-loop-name
invariant-loop-name l = l.list ≡ map (λ n. n.text) (take l.name-index l.names)
