use Rattle.std.proofs.Common.{◌≡◌, ◌+◌, drop}
use Rattle.std.specs.List.{prefix_len}
use Rattle.st_tree.specs.Address.{is_no_point}
use Rattle.st_tree.proofs.address.point_at.Given as goal

abbrev pub invariant-loop-i : goal.invariant-loop-i
invariant-loop-i l = l.i + prefix_len is_no_point (drop l.i l.text) ≡ prefix_len is_no_point l.text
