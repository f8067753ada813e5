use Rattle.std.proofs.Common.{◌≡◌, ℤ, not, ap, ◌∙◌, rules, to_z, of_z}
use Rattle.std.specs.Prelude.{◌+ℤ◌}
use Rattle.std.specs.Int.{w128}
use Rattle.std.specs.Ordering.{int_eq}
use Rattle.std.proofs.lemmas.Int.{to_z-of_z}
use Rattle.plc_num.specs.Arithmetic.{sum}
use Rattle.machine_memory.proofs.QuotientLaws.{whole_sum}
use Rattle.machine_memory.proofs.numbers.has_carry.Goals as goal

pub returns : goal.returns
returns c =
    let e = c.args.e in
    let a = c.args.a in
    let b = c.args.b in
    let kept : to_z w128 (of_z w128 c.add.result) ≡ c.add.result = search rules in
    let added : c.add.result ≡ sum e a b = c.add.ensures ∙ ap (λ x. sum e x (to_z w128 (of_z w128 b))) (to_z-of_z w128 a c.ranges.a) ∙ ap (sum e a) (to_z-of_z w128 b c.ranges.b) in
    let whole : to_z w128 (of_z w128 (to_z w128 (of_z w128 a) +ℤ to_z w128 (of_z w128 b))) ≡ a +ℤ b = whole_sum e a b c.ranges.a c.ranges.b c.requires.left c.requires.right in
    c.differ.ensures ∙ ap (λ (x : ℤ). not (int_eq x (to_z w128 (of_z w128 (to_z w128 (of_z w128 a) +ℤ to_z w128 (of_z w128 b)))))) (kept ∙ added) ∙ ap (λ (x : ℤ). not (int_eq (sum e a b) x)) whole
