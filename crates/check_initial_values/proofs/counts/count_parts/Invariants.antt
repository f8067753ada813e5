use Rattle.std.proofs.Common.{◌≡◌, ◌+◌, ◌<◌, ◌^◌, drop}
use Rattle.st_tree.specs.Initial.{parts_of}
use Rattle.st_unit_rules.specs.Initials as initials
use Rattle.check_initial_values.proofs.counts.count_parts.Given as goal

abbrev pub invariant-loop-part : goal.invariant-loop-part
invariant-loop-part l = record {
  rest : l.count + initials.count_parts (parts_of (drop l.part-index l.parts)) ≡ initials.count_parts (parts_of l.parts);
  fits : l.count < 2 ^ 128;
}
