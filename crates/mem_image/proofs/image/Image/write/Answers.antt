use Rattle.std.proofs.Common.{◌≡◌, pos, ◌^◌, inl, inr, refl, ap, ◌∙◌, arith}
use Rattle.std.specs.Int.{w128, int_rem_euclid}
use Rattle.std.proofs.lemmas.Int.{to_z-of_z}
use Rattle.st_types.specs.Elem.{bytes}
use Rattle.mem_image.specs.Image.{replaced}
use Rattle.mem_image.proofs.NumberLaws.{write_1, write_2, write_4, write_8}
use Rattle.mem_image.proofs.image.Image.write.Goals as goal

pub returns-in-Bool-clause-after : goal.returns-in-Bool-clause-after
returns-in-Bool-clause-after c =
    let size : bytes c.args.e ≡ 1 = elim c.in-Bool.is [
      | inl is ↦ rw is refl
      | inr more ↦ elim more [ inl is ↦ rw is refl | inr last ↦ elim last [ inl is ↦ rw is refl | inr is ↦ rw is refl ] ]
    ] in
    c.fill_from.ensures.after ∙ ap (replaced c.args.self.now c.args.offset) (write_1 c.args.e c.args.v c.low_1.result size (omega arith) (c.low_1.ensures ∙ ap (λ v. int_rem_euclid v (pos (2 ^ 8))) (to_z-of_z w128 c.args.v c.ranges.v)))

pub returns-in-Int-clause-after : goal.returns-in-Int-clause-after
returns-in-Int-clause-after c =
    let size : bytes c.args.e ≡ 2 = elim c.in-Int.is [
      | inl is ↦ rw is refl
      | inr more ↦ elim more [ inl is ↦ rw is refl | inr is ↦ rw is refl ]
    ] in
    c.fill_from-in-Int.ensures.after ∙ ap (replaced c.args.self.now c.args.offset) (c.to_le_bytes.ensures ∙ write_2 c.args.e c.args.v c.low_2.result size (c.low_2.ensures ∙ ap (λ v. int_rem_euclid v (pos (2 ^ 16))) (to_z-of_z w128 c.args.v c.ranges.v)))

pub returns-in-Dint-clause-after : goal.returns-in-Dint-clause-after
returns-in-Dint-clause-after c =
    let size : bytes c.args.e ≡ 4 = elim c.in-Dint.is [
      | inl is ↦ rw is refl
      | inr more ↦ elim more [ inl is ↦ rw is refl | inr last ↦ elim last [ inl is ↦ rw is refl | inr is ↦ rw is refl ] ]
    ] in
    c.fill_from-in-Dint.ensures.after ∙ ap (replaced c.args.self.now c.args.offset) (c.to_le_bytes-in-Dint.ensures ∙ write_4 c.args.e c.args.v c.low_4.result size (c.low_4.ensures ∙ ap (λ v. int_rem_euclid v (pos (2 ^ 32))) (to_z-of_z w128 c.args.v c.ranges.v)))

pub returns-in-Lint-clause-after : goal.returns-in-Lint-clause-after
returns-in-Lint-clause-after c =
    let size : bytes c.args.e ≡ 8 = elim c.in-Lint.is [
      | inl is ↦ rw is refl
      | inr more ↦ elim more [ inl is ↦ rw is refl | inr is ↦ rw is refl ]
    ] in
    c.fill_from-in-Lint.ensures.after ∙ ap (replaced c.args.self.now c.args.offset) (c.to_le_bytes-in-Lint.ensures ∙ write_8 c.args.e c.args.v c.low_8.result size (c.low_8.ensures ∙ ap (λ v. int_rem_euclid v (pos (2 ^ 64))) (to_z-of_z w128 c.args.v c.ranges.v)))
