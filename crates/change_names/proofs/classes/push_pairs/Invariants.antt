use Rattle.std.proofs.Common.{◌≡◌, ◌++◌, drop}
use Rattle.change_names.specs.change_pairs.Pairs.{pairs_of}
use Rattle.change_names.proofs.classes.push_pairs.Given as goal

-- what was added, and what the rest gives, is the whole
abbrev pub invariant-loop-pair : goal.invariant-loop-pair
invariant-loop-pair l = (pairs_of l.out.items ++ pairs_of (drop l.pair-index l.pairs)) ≡ (pairs_of l.initial.out.items ++ pairs_of l.pairs)
