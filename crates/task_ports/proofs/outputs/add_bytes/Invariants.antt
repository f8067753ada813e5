use Rattle.std.proofs.Common.{◌≡◌, ◌/◌, ◌^◌}
use Rattle.task_ports.specs.Private.Sums.{part_share, Adds}
use Rattle.task_ports.proofs.outputs.add_bytes.Given as goal

abbrev pub invariant-bytes : goal.invariant-bytes
invariant-bytes l = (l.left ≡ l.fn.n / 256 ^ l.k) × Adds l.fn.bytes l.bytes (part_share l.first l.k l.fn.n)
