-- Ends of labels that are names, and the values of literals with a sign.
use Rattle.std.proofs.Common.{◌≡◌, ℕ, ◌<◌, ◌^◌, Bool, true, false, List, Option, None, refl, sym, ap, ◌∙◌, arith}
use Rattle.std.specs.Prelude.{nat_lt, pos, neg_ℤ}
use Rattle.std.proofs.lemmas.Grind.{common_steps}
use Rattle.plc_text.specs.declared.code.Code.{Code}
use Rattle.plc_text.specs.declared.code.Code.TheVariants.{E05}
use Rattle.st_types.specs.declared.elem.Elem.{Elem}
use Rattle.st_types.specs.declared.st_type.StType.{StType}
use Rattle.st_tree.specs.declared.expression.Literal.{Literal}
use Rattle.st_tree.specs.declared.expression.Literal.TheVariants as literal
use Rattle.st_tree.specs.declared.program.Note.{Note}
use Rattle.st_tree.specs.declared.program.Target.{Target}
use Rattle.st_tree.specs.declared.program.Target.TheVariants.{Constant}
use Rattle.st_tree.specs.declared.statement.LabelEnd.TheVariants as label
use Rattle.st_tree.specs.Number.{number_of}
use Rattle.st_rules.specs.declared.asked.Asked.{Asked}
use Rattle.st_rules.specs.Faults.{least, earlier, when}
use Rattle.st_rules.specs.Literals.{holds, literal_number}
use Rattle.st_rules.specs.Scope.{Scope, sought}
use Rattle.st_rules.specs.Scope as scope
use Rattle.st_rules.specs.Places.{name_faults}
use Rattle.st_rules.specs.Expressions.{note, value_target}
use Rattle.st_rules.specs.Statements.{control_type, is_no_constant, name_of_no_constant}
use Rattle.st_operators.proofs.LiteralLaws.{past_negative}
use Rattle.st_check_body.specs.declared.st_body_parts.found.CheckedEnd.{CheckedEnd}
use Rattle.st_check_body.specs.st_body_parts.Found.{EndIs}
use Rattle.st_check_body.proofs.st_body_parts.Parts.{joined}

past : (n : ℕ) → nat_lt 18_446_744_073_709_551_615 n ≡ true → n < 2 ^ 64 → ⊥
past n h k = grind (arith, common_steps)

negative_fits_by : (b : Bool) (e : Elem) (n : ℕ) → nat_lt 18_446_744_073_709_551_615 n ≡ b → holds e (neg_ℤ (pos n)) ≡ true → b ≡ false
negative_fits_by true e n h k = cc (past_negative e n (past n h))
negative_fits_by false e n h k = refl

negative_fits : (e : Elem) (n : ℕ) → holds e (neg_ℤ (pos n)) ≡ true → nat_lt 18_446_744_073_709_551_615 n ≡ false
negative_fits e n k = negative_fits_by (nat_lt 18_446_744_073_709_551_615 n) e n refl k

pub negative_told : (r : Target) (l : Literal) (digits text : List ℕ) → l ≡ literal.Negative digits → text ≡ digits → (nat_lt 18_446_744_073_709_551_615 (number_of text) ≡ false → r ≡ Constant (neg_ℤ (pos (number_of text)))) →
    (e : Elem) → holds e (literal_number l) ≡ true → r ≡ Constant (literal_number l)
negative_told r l digits text p q f e h =
    let is : l ≡ literal.Negative text = p ∙ ap literal.Negative (sym q) in
    f (negative_fits e (number_of text) (sym (ap (λ y. holds e (literal_number y)) is) ∙ h)) ∙ ap (λ y. Constant (literal_number y)) (sym is)

pub name_end : (c : CheckedEnd) (s : Scope) (asked : Asked) (line : ℕ) (name copy : List ℕ) (m : Option scope.Meant) (b : Bool) (bare own : Option (Code × ℕ)) (shown : Option StType) (n : Note) (t : Target) →
    m ≡ sought s false name → bare ≡ least (name_faults s line false (sought s false name)) → b ≡ is_no_constant s m → own ≡ least (when b E05 line) → c.least ≡ earlier bare own → c.told ≡ control_type m → shown ≡ control_type m → t ≡ value_target m →
    n ≡ note line shown t → copy ≡ name → c.end ≡ label.Name n copy → EndIs c s asked (label.Name line name)
name_end c s asked line name copy m b bare own shown n t hm hb hc ho h ht hs hv hn hk e = record {
  told = ht ∙ ap control_type hm;
  broken = joined c.least bare own (name_faults s line false (sought s false name)) (name_of_no_constant s line (sought s false name)) h hb
      (ho ∙ ap (λ x. least (when x E05 line)) hc ∙ ap (λ x. least (name_of_no_constant s line x)) hm);
  tree = λ none. e ∙ ap (λ y. label.Name y copy) (hn ∙ ap (λ u. note line u t) (hs ∙ ap control_type hm) ∙ ap (note line (control_type (sought s false name))) (hv ∙ ap value_target hm))
      ∙ ap (label.Name (note line (control_type (sought s false name)) (value_target (sought s false name)))) hk;
}
