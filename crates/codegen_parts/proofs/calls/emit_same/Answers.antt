use Rattle.std.proofs.Common.{◌≡◌, ◌∷◌, ◌++◌, ap, ◌∙◌, sym, rules}
use Rattle.routine_tables.specs.Parameters.{parameter_of, parameters_of}
use Rattle.code_rules.specs.Code.{same_code}
use Rattle.codegen_tables.specs.Context.{plan_in}
use Rattle.codegen_parts.proofs.CallLaws.{same_next}
use Rattle.codegen_parts.proofs.calls.emit_same.Goals as goal

pub parameters-preserved : goal.parameters-preserved
parameters-preserved c =
    let split : c.parameters.left.now ≡ c.in-Some.parameter.now ∷ c.in-Some.behind.now = search rules in
    same_next (plan_in c.args.c.now) c.args.line c.args.block c.parameters.i _ (parameter_of c.in-Some.parameter.now) (parameters_of c.in-Some.behind.now) c.parameters.cells.items _ _ c.in_ok-emit_same_one.ensures c.in_ok-i.ensures
    (sym (ap (λ qs. c.parameters.cells.items ++ same_code (plan_in c.args.c.now) c.args.line c.args.block c.parameters.i (parameters_of qs)) split) ∙ c.parameters.invariant)
