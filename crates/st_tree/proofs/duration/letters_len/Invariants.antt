use Rattle.std.proofs.Common.{◌≡◌, ◌+◌, drop}
use Rattle.std.specs.List.{prefix_len}
use Rattle.st_tree.specs.Duration.{is_unit_letter}
use Rattle.st_tree.proofs.duration.letters_len.Given as goal

abbrev pub invariant-loop-i : goal.invariant-loop-i
invariant-loop-i l = l.i + prefix_len is_unit_letter (drop l.i l.text) ≡ prefix_len is_unit_letter l.text
