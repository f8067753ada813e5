-- Literals that break no rule have numbers that notes hold.
use Rattle.std.proofs.Common.{◌≡◌, ℕ, Bool, true, false, List, Option, None, refl, sym, ap, ◌∙◌, subst}
use Rattle.std.specs.Prelude.{nat_lt, not, ◌&&◌, ◌++◌, pos, neg_ℤ}
use Rattle.plc_text.specs.declared.code.Code.{Code}
use Rattle.plc_text.specs.declared.code.Code.TheVariants.{E07, E13}
use Rattle.st_types.specs.declared.elem.Elem.{Elem}
use Rattle.st_types.specs.declared.st_type.StType.{StType}
use Rattle.st_tree.specs.declared.expression.Literal.{Literal}
use Rattle.st_tree.specs.Number.{number_of}
use Rattle.st_rules.specs.Faults.{Faults, least, earlier, when}
use Rattle.st_rules.specs.Literals.{int_faults, negative_faults, typed_literal_faults, past_64_bits, number_past_its_type, is_wrong_truth, holds, literal_number}
use Rattle.st_rules.proofs.FaultLaws.{least-append}
use Rattle.st_check_body.proofs.st_body_parts.Parts.{none_before, none_behind}

-- a rule that is not broken has a test that fails
untested : (b : Bool) (code : Code) (line : ℕ) → least (when b code line) ≡ None → b ≡ false
untested true code line h = absurd (cc h)
untested false code line h = refl

pub int_held : (line : ℕ) (digits : List ℕ) (t : Option StType) → least (int_faults line digits t) ≡ None → nat_lt 18_446_744_073_709_551_615 (number_of digits) ≡ false
unfolding int_faults
int_held line digits t h =
    untested _ E13 line (none_before (least (past_64_bits line (number_of digits))) (least (number_past_its_type line (pos (number_of digits)) t))
    (sym (least-append (past_64_bits line (number_of digits)) (number_past_its_type line (pos (number_of digits)) t)) ∙ h))

pub negative_held : (line : ℕ) (digits : List ℕ) (t : Option StType) → least (negative_faults line digits t) ≡ None → nat_lt 18_446_744_073_709_551_615 (number_of digits) ≡ false
unfolding negative_faults
negative_held line digits t h =
    untested _ E13 line (none_before (least (past_64_bits line (number_of digits))) (least (number_past_its_type line (neg_ℤ (pos (number_of digits))) t))
    (sym (least-append (past_64_bits line (number_of digits)) (number_past_its_type line (neg_ℤ (pos (number_of digits))) t)) ∙ h))

both_tests : (w h : Bool) → w ≡ false → (not w && not h) ≡ false → h ≡ true
both_tests true h a b = absurd (cc a)
both_tests false true a b = refl
both_tests false false a b = absurd (cc b)

unfoldable wrong : ℕ → Elem → Literal → Option (Code × ℕ)
wrong line e l = least (when (is_wrong_truth e l) E07 line)

unfoldable past : ℕ → Elem → Literal → Option (Code × ℕ)
past line e l = least (when (not (is_wrong_truth e l) && not (holds e (literal_number l))) E13 line)

pub literal_held : (line : ℕ) (e : Elem) (l : Literal) → least (typed_literal_faults line e l) ≡ None → holds e (literal_number l) ≡ true
unfolding typed_literal_faults wrong past
literal_held line e l h =
    let n : earlier (wrong line e l) (past line e l) ≡ None =
    sym (least-append (when (is_wrong_truth e l) E07 line) (when (not (is_wrong_truth e l) && not (holds e (literal_number l))) E13 line)) ∙ h in
    both_tests (is_wrong_truth e l) (holds e (literal_number l))
    (untested (is_wrong_truth e l) E07 line (none_before (wrong line e l) (past line e l) n))
    (untested (not (is_wrong_truth e l) && not (holds e (literal_number l))) E13 line (none_behind (wrong line e l) (past line e l) n))
