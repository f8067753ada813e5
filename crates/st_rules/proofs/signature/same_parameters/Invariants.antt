use Rattle.std.proofs.Common.{◌≡◌, drop, length}
use Rattle.st_rules.specs.Signatures.{same_parameters}
use Rattle.st_rules.proofs.signature.same_parameters.Given as goal

-- what is left gives what all gives
abbrev pub invariant-loop-i : goal.invariant-loop-i
invariant-loop-i g l = record {
  same_length : length l.a ≡ length l.b;
  rest : same_parameters g.V.PartialEq.eq (drop l.i l.a) (drop l.i l.b) ≡ same_parameters g.V.PartialEq.eq l.a l.b;
}
