use Rattle.std.proofs.Common.{◌≡◌, ◌<◌, ◌^◌, drop}
use Rattle.std.specs.Prelude.{fold}
use Rattle.st_tree.specs.Number.{with_digit, digits_value}
use Rattle.st_tree.proofs.wide.digits_value.Given as goal

abbrev pub invariant-loop-digit : goal.invariant-loop-digit
invariant-loop-digit l = record {
  rest : fold (with_digit l.base) l.value (drop l.digit-index l.digits) ≡ digits_value l.base l.digits;
  fits : l.value < 2 ^ 128;
}
