use Rattle.std.proofs.Common.{inl, inr, refl, ◌∙◌, arith, rules}
use Rattle.std.specs.Prelude.{FitsSigned}
use Rattle.std.specs.Int.{w8, w16, w32, w64, w128}
use Rattle.std.proofs.lemmas.Int.{to_z_pos}
use Rattle.st_types.specs.declared.elem.Elem.TheVariants as kind
use Rattle.mem_image.proofs.NumberLaws.{read_plain, read_bit, read_signed_1, read_signed_2, read_signed_4, read_signed_8, widened}
use Rattle.mem_image.proofs.words.value.Goals as goal

pub returns-in-Bool : goal.returns-in-Bool
returns-in-Bool c = rw c.in-Bool.is (to_z_pos w128 _ (omega arith) ∙ read_bit _ _ _ c.word_1.ensures)

pub returns-in-Sint : goal.returns-in-Sint
returns-in-Sint c =
    let r = c.cast_signed.result in
    let narrow : FitsSigned w8 r = search rules in
    let wide : FitsSigned w128 r = omega arith in
    rw c.in-Sint.is (widened w8 r narrow wide ∙ c.cast_signed.ensures ∙ read_signed_1 _ _ _ (omega arith) c.word_1-in-Sint.ensures)

pub returns-in-Int : goal.returns-in-Int
returns-in-Int c =
    let r = c.cast_signed-in-Int.result in
    let narrow : FitsSigned w16 r = search rules in
    let wide : FitsSigned w128 r = omega arith in
    rw c.in-Int.is (widened w16 r narrow wide ∙ c.cast_signed-in-Int.ensures ∙ read_signed_2 _ _ _ (omega arith) c.word_2.ensures)

pub returns-in-Dint : goal.returns-in-Dint
returns-in-Dint c =
    let r = c.cast_signed-in-Dint.result in
    let narrow : FitsSigned w32 r = search rules in
    let wide : FitsSigned w128 r = omega arith in
    rw c.in-Dint.is (widened w32 r narrow wide ∙ c.cast_signed-in-Dint.ensures ∙ read_signed_4 _ _ _ (omega arith) c.word_4.ensures)

pub returns-in-Lint : goal.returns-in-Lint
returns-in-Lint c =
    let r = c.cast_signed-in-Lint.result in
    let narrow : FitsSigned w64 r = search rules in
    let wide : FitsSigned w128 r = omega arith in
    rw c.in-Lint.is (widened w64 r narrow wide ∙ c.cast_signed-in-Lint.ensures ∙ read_signed_8 _ _ _ (omega arith) c.word_8.ensures)

pub returns-in-Usint : goal.returns-in-Usint
returns-in-Usint c =
    let n = c.word_1-in-Usint.result in
    to_z_pos w128 n (omega arith) ∙ elim c.in-Usint.is [
      | inl is ↦ rw is (read_plain kind.Usint _ _ 1 n refl refl (omega arith) c.word_1-in-Usint.ensures)
      | inr is ↦ rw is (read_plain kind.Byte _ _ 1 n refl refl (omega arith) c.word_1-in-Usint.ensures)
    ]

pub returns-in-Uint : goal.returns-in-Uint
returns-in-Uint c =
    let n = c.word_2-in-Uint.result in
    to_z_pos w128 n (omega arith) ∙ elim c.in-Uint.is [
      | inl is ↦ rw is (read_plain kind.Uint _ _ 2 n refl refl (omega arith) c.word_2-in-Uint.ensures)
      | inr is ↦ rw is (read_plain kind.Word _ _ 2 n refl refl (omega arith) c.word_2-in-Uint.ensures)
    ]

pub returns-in-Udint : goal.returns-in-Udint
returns-in-Udint c =
    let n = c.word_4-in-Udint.result in
    to_z_pos w128 n (omega arith) ∙ elim c.in-Udint.is [
      | inl is ↦ rw is (read_plain kind.Udint _ _ 4 n refl refl (omega arith) c.word_4-in-Udint.ensures)
      | inr rest ↦ elim rest [
        | inl is ↦ rw is (read_plain kind.Dword _ _ 4 n refl refl (omega arith) c.word_4-in-Udint.ensures)
        | inr is ↦ rw is (read_plain kind.Time _ _ 4 n refl refl (omega arith) c.word_4-in-Udint.ensures)
      ]
    ]

pub returns-in-Ulint : goal.returns-in-Ulint
returns-in-Ulint c =
    let n = c.word_8-in-Ulint.result in
    to_z_pos w128 n (omega arith) ∙ elim c.in-Ulint.is [
      | inl is ↦ rw is (read_plain kind.Ulint _ _ 8 n refl refl (omega arith) c.word_8-in-Ulint.ensures)
      | inr is ↦ rw is (read_plain kind.Lword _ _ 8 n refl refl (omega arith) c.word_8-in-Ulint.ensures)
    ]
