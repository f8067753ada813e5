use Rattle.std.proofs.Common.{◌^◌, pos, inl, inr, refl, ap, ◌∙◌, arith, rules}
use Rattle.std.specs.Prelude.{FitsSigned}
use Rattle.std.specs.Int.{w8, w16, w32, w64, w128, int_rem_euclid}
use Rattle.std.proofs.lemmas.Int.{to_z_pos, to_z-of_z}
use Rattle.st_types.specs.declared.elem.Elem.TheVariants as kind
use Rattle.mem_image.proofs.NumberLaws.{widened}
use Rattle.machine_memory.proofs.NumberLaws.{narrow_bit, narrow_plain, narrow_signed_1, narrow_signed_2, narrow_signed_4, narrow_signed_8}
use Rattle.machine_memory.proofs.numbers.turned.Goals as goal

pub returns-in-Bool : goal.returns-in-Bool
returns-in-Bool c = rw c.in-Bool.is (to_z_pos w128 _ (omega arith) ∙ narrow_bit c.args.v _ (c.low_1.ensures ∙ ap (λ v. int_rem_euclid v (pos (2 ^ 8))) (to_z-of_z w128 c.args.v c.ranges.v)))

pub returns-in-Sint : goal.returns-in-Sint
returns-in-Sint c =
    let r = c.cast_signed.result in
    let narrow : FitsSigned w8 r = search rules in
    let wide : FitsSigned w128 r = omega arith in
    rw c.in-Sint.is (widened w8 r narrow wide ∙ c.cast_signed.ensures ∙ narrow_signed_1 c.args.v _ (omega arith) (c.low_1-in-Sint.ensures ∙ ap (λ v. int_rem_euclid v (pos (2 ^ 8))) (to_z-of_z w128 c.args.v c.ranges.v)))

pub returns-in-Int : goal.returns-in-Int
returns-in-Int c =
    let r = c.cast_signed-in-Int.result in
    let narrow : FitsSigned w16 r = search rules in
    let wide : FitsSigned w128 r = omega arith in
    rw c.in-Int.is (widened w16 r narrow wide ∙ c.cast_signed-in-Int.ensures ∙ narrow_signed_2 c.args.v _ (omega arith) (c.low_2.ensures ∙ ap (λ v. int_rem_euclid v (pos (2 ^ 16))) (to_z-of_z w128 c.args.v c.ranges.v)))

pub returns-in-Dint : goal.returns-in-Dint
returns-in-Dint c =
    let r = c.cast_signed-in-Dint.result in
    let narrow : FitsSigned w32 r = search rules in
    let wide : FitsSigned w128 r = omega arith in
    rw c.in-Dint.is (widened w32 r narrow wide ∙ c.cast_signed-in-Dint.ensures ∙ narrow_signed_4 c.args.v _ (omega arith) (c.low_4.ensures ∙ ap (λ v. int_rem_euclid v (pos (2 ^ 32))) (to_z-of_z w128 c.args.v c.ranges.v)))

pub returns-in-Lint : goal.returns-in-Lint
returns-in-Lint c =
    let r = c.cast_signed-in-Lint.result in
    let narrow : FitsSigned w64 r = search rules in
    let wide : FitsSigned w128 r = omega arith in
    rw c.in-Lint.is (widened w64 r narrow wide ∙ c.cast_signed-in-Lint.ensures ∙ narrow_signed_8 c.args.v _ (omega arith) (c.low_8.ensures ∙ ap (λ v. int_rem_euclid v (pos (2 ^ 64))) (to_z-of_z w128 c.args.v c.ranges.v)))

pub returns-in-Usint : goal.returns-in-Usint
returns-in-Usint c =
    let n = c.low_1-in-Usint.result in
    let is' = c.low_1-in-Usint.ensures ∙ ap (λ v. int_rem_euclid v (pos (2 ^ 8))) (to_z-of_z w128 c.args.v c.ranges.v) in
    to_z_pos w128 n (omega arith) ∙ elim c.in-Usint.is [
      | inl is ↦ rw is (narrow_plain kind.Usint c.args.v 8 n refl refl (omega arith) is')
      | inr is ↦ rw is (narrow_plain kind.Byte c.args.v 8 n refl refl (omega arith) is')
    ]

pub returns-in-Uint : goal.returns-in-Uint
returns-in-Uint c =
    let n = c.low_2-in-Uint.result in
    let is' = c.low_2-in-Uint.ensures ∙ ap (λ v. int_rem_euclid v (pos (2 ^ 16))) (to_z-of_z w128 c.args.v c.ranges.v) in
    to_z_pos w128 n (omega arith) ∙ elim c.in-Uint.is [
      | inl is ↦ rw is (narrow_plain kind.Uint c.args.v 16 n refl refl (omega arith) is')
      | inr is ↦ rw is (narrow_plain kind.Word c.args.v 16 n refl refl (omega arith) is')
    ]

pub returns-in-Udint : goal.returns-in-Udint
returns-in-Udint c =
    let n = c.low_4-in-Udint.result in
    let is' = c.low_4-in-Udint.ensures ∙ ap (λ v. int_rem_euclid v (pos (2 ^ 32))) (to_z-of_z w128 c.args.v c.ranges.v) in
    to_z_pos w128 n (omega arith) ∙ elim c.in-Udint.is [
      | inl is ↦ rw is (narrow_plain kind.Udint c.args.v 32 n refl refl (omega arith) is')
      | inr rest ↦ elim rest [
        | inl is ↦ rw is (narrow_plain kind.Dword c.args.v 32 n refl refl (omega arith) is')
        | inr is ↦ rw is (narrow_plain kind.Time c.args.v 32 n refl refl (omega arith) is')
      ]
    ]

pub returns-in-Ulint : goal.returns-in-Ulint
returns-in-Ulint c =
    let n = c.low_8-in-Ulint.result in
    let is' = c.low_8-in-Ulint.ensures ∙ ap (λ v. int_rem_euclid v (pos (2 ^ 64))) (to_z-of_z w128 c.args.v c.ranges.v) in
    to_z_pos w128 n (omega arith) ∙ elim c.in-Ulint.is [
      | inl is ↦ rw is (narrow_plain kind.Ulint c.args.v 64 n refl refl (omega arith) is')
      | inr is ↦ rw is (narrow_plain kind.Lword c.args.v 64 n refl refl (omega arith) is')
    ]
