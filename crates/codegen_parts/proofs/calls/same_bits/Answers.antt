use Rattle.std.proofs.Common.{◌≡◌, ◌+◌, ◌∷◌, ap, ◌∙◌, sym, rules}
use Rattle.routine_tables.specs.Parameters.{parameter_of, parameters_of}
use Rattle.code_rules.specs.Code.{same_bits}
use Rattle.codegen_parts.proofs.CallLaws.{same_next_bits}
use Rattle.codegen_parts.proofs.calls.same_bits.Goals as goal

pub parameters-preserved : goal.parameters-preserved
parameters-preserved c =
    let split : c.parameters.left.now ≡ c.in-Some.parameter.now ∷ c.in-Some.behind.now = search rules in
    same_next_bits c.parameters.i _ c.parameters.mask _ (parameter_of c.in-Some.parameter.now) (parameters_of c.in-Some.behind.now) _ c.in_ok-mask.ensures c.in_ok-i.ensures
    (sym (ap (λ qs. c.parameters.mask + same_bits c.parameters.i (parameters_of qs)) split) ∙ c.parameters.invariant)
