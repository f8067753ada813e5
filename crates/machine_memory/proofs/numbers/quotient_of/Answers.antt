use Rattle.std.proofs.Common.{◌≡◌, ap, ◌∙◌, rules, to_z, of_z}
use Rattle.std.specs.Int.{w128}
use Rattle.std.proofs.lemmas.Int.{to_z-of_z}
use Rattle.plc_num.specs.Wrapping.{wrapped}
use Rattle.plc_num.specs.Arithmetic.{quotient}
use Rattle.machine_memory.proofs.QuotientLaws.{divides}
use Rattle.machine_memory.proofs.numbers.quotient_of.Goals as goal

pub returns : goal.returns
returns c =
    let e = c.args.e in
    let x : c.narrow-x.result ≡ wrapped e c.args.a = c.narrow-x.ensures.value ∙ ap (wrapped e) (to_z-of_z w128 c.args.a c.ranges.a) in
    let y : c.narrow-y.result ≡ wrapped e c.args.b = c.narrow-y.ensures.value ∙ ap (wrapped e) (to_z-of_z w128 c.args.b c.ranges.b) in
    let x' : to_z w128 (of_z w128 c.narrow-x.result) ≡ c.narrow-x.result = search rules in
    let y' : to_z w128 (of_z w128 c.narrow-y.result) ≡ c.narrow-y.result = search rules in
    let q' : to_z w128 (of_z w128 c.in-Some.result) ≡ c.in-Some.result = search rules in
    let some : c.in-Some.result ≡ quotient e (to_z w128 (of_z w128 c.narrow-x.result)) (to_z w128 (of_z w128 c.narrow-y.result)) = c.in-Some.ensures.some in
    divides (wrapped e c.args.b) _ _ c.args.line (λ z. c.if-y-eq0.false (ap (of_z w128) (y ∙ z)))
    (q' ∙ some ∙ ap (λ n. quotient e n (to_z w128 (of_z w128 c.narrow-y.result))) (x' ∙ x) ∙ ap (quotient e (wrapped e c.args.a)) (y' ∙ y))
