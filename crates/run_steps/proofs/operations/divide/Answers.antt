use Rattle.std.proofs.Common.{sym, ap, ◌∙◌}
use Rattle.std.specs.Int.{w128, cast_unsigned as of_z}
use Rattle.std.proofs.lemmas.Int.{to_z-of_z}
use Rattle.plc_num.specs.Arithmetic.{quotient}
use Rattle.st_values.specs.Value.{number}
use Rattle.st_meaning.specs.State.{Done}
use Rattle.value_trees.specs.Value.{value-Number}
use Rattle.run_state.specs.State.{state_of}
use Rattle.run_steps.proofs.Divisors.{divides}
use Rattle.run_steps.proofs.operations.divide.Goals as goal

pub returns : goal.returns
returns c =
    let s = state_of c.args.m.now in
    let is = to_z-of_z w128 c.quotient.result (record { sfits = c.quotient.type_inv }) ∙ c.quotient.ensures ∙ (λ i. quotient c.args.e (to_z-of_z w128 c.args.a c.ranges.a i) (to_z-of_z w128 c.args.b c.ranges.b i)) in
    divides quotient c.args.e c.args.a c.args.b c.args.line s (λ e. c.if-b-eq0.false (ap (of_z w128) e)) ∙ ap (λ v. Done v s) (ap number (sym is) ∙ sym (value-Number _))
