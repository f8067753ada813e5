-- Ends of labels that are literals.
use Rattle.std.proofs.Common.{◌≡◌, ℕ, Bool, true, false, List, Option, None, refl, sym, ap, ◌∙◌, subst}
use Rattle.std.specs.Prelude.{nat_lt, pos, neg_ℤ, Result, IfOk}
use Rattle.plc_text.specs.declared.code.Code.{Code}
use Rattle.plc_text.specs.declared.memory.NoMemory.{NoMemory}
use Rattle.st_types.specs.declared.elem.Elem.{Elem}
use Rattle.st_types.specs.declared.st_type.StType.{StType}
use Rattle.st_tree.specs.declared.expression.Literal.{Literal}
use Rattle.st_tree.specs.declared.program.Note.{Note}
use Rattle.st_tree.specs.declared.program.Target.{Target}
use Rattle.st_tree.specs.declared.program.Target.TheVariants.{Constant}
use Rattle.st_tree.specs.declared.statement.LabelEnd.{LabelEnd}
use Rattle.st_tree.specs.declared.statement.LabelEnd.TheVariants as label
use Rattle.st_tree.specs.Number.{number_of}
use Rattle.st_rules.specs.declared.asked.Asked.{Asked}
use Rattle.st_rules.specs.Faults.{Faults, least, earlier}
use Rattle.st_rules.specs.Literals.{int_faults, negative_faults, typed_literal_faults, int_type, negative_type, typed_literal_type, holds, literal_number}
use Rattle.st_rules.specs.Scope.{Scope}
use Rattle.st_rules.specs.Calls.{value_unsuited}
use Rattle.st_rules.specs.Expressions.{note}
use Rattle.st_rules.specs.Statements.{end_faults, end_line, end_type, typed_end, label_end_faults}
use Rattle.st_check_body.specs.declared.st_body_parts.found.CheckedEnd.{CheckedEnd}
use Rattle.st_check_body.specs.st_body_parts.Found.{EndIs, EndFinds}
use Rattle.st_check_body.proofs.st_body_parts.LiteralLaws.{int_held, negative_held, literal_held}
use Rattle.st_check_body.proofs.st_body_parts.Parts.{joined, none_before}

module _ (c : CheckedEnd) (s : Scope) (asked : Asked) (line : ℕ) (n : Note) (shown : Option StType) (t : Target) where
  pub int_end : (digits copy own : List ℕ) → digits ≡ own → c.told ≡ int_type asked digits → c.least ≡ least (int_faults line digits c.told) → shown ≡ c.told → (nat_lt 18_446_744_073_709_551_615 (number_of digits) ≡ false → t ≡ Constant (pos (number_of digits))) →
      n ≡ note line shown t → copy ≡ digits → c.end ≡ label.Int n copy → EndIs c s asked (label.Int line own)
  int_end digits copy own q h f same v m k e = subst (λ (d : List ℕ). EndIs c s asked (label.Int line d)) q (record {
    told = h;
    broken = f ∙ ap (λ u. least (int_faults line digits u)) h;
    tree = λ none. e ∙ ap (λ y. label.Int y copy) (m ∙ ap (λ u. note line u t) (same ∙ h) ∙ ap (note line (int_type asked digits)) (v (int_held line digits c.told (sym f ∙ none)))) ∙ ap (label.Int (note line (int_type asked digits) (Constant (pos (number_of digits))))) k;
  })

  pub negative_end : (digits copy own : List ℕ) → digits ≡ own → c.told ≡ negative_type asked → c.least ≡ least (negative_faults line digits c.told) → shown ≡ c.told → (nat_lt 18_446_744_073_709_551_615 (number_of digits) ≡ false → t ≡ Constant (neg_ℤ (pos (number_of digits)))) →
      n ≡ note line shown t → copy ≡ digits → c.end ≡ label.Negative n copy → EndIs c s asked (label.Negative line own)
  negative_end digits copy own q h f same v m k e = subst (λ (d : List ℕ). EndIs c s asked (label.Negative line d)) q (record {
    told = h;
    broken = f ∙ ap (λ u. least (negative_faults line digits u)) h;
    tree = λ none. e ∙ ap (λ y. label.Negative y copy) (m ∙ ap (λ u. note line u t) (same ∙ h) ∙ ap (note line (negative_type asked)) (v (negative_held line digits c.told (sym f ∙ none)))) ∙ ap (label.Negative (note line (negative_type asked) (Constant (neg_ℤ (pos (number_of digits)))))) k;
  })

  pub literal_end : (e : Elem) (l copy : Literal) → c.told ≡ typed_literal_type e l → c.least ≡ least (typed_literal_faults line e l) → shown ≡ c.told → ((k : Elem) → holds k (literal_number l) ≡ true → t ≡ Constant (literal_number l)) →
      n ≡ note line shown t → copy ≡ l → c.end ≡ label.Typed n e copy → EndIs c s asked (label.Typed line e l)
  literal_end e l copy h f same v m k is = record {
    told = h;
    broken = f;
    tree = λ none. is ∙ ap (λ y. label.Typed y e copy) (m ∙ ap (λ u. note line u t) (same ∙ h) ∙ ap (note line (typed_literal_type e l)) (v e (literal_held line e l (sym f ∙ none)))) ∙ ap (label.Typed (note line (typed_literal_type e l) (Constant (literal_number l))) e) k;
  }

-- an end with the rule of its value
pub suited : (c x : CheckedEnd) (s : Scope) (asked : Asked) (e : LabelEnd ℕ) (line : ℕ) (own : Option (Code × ℕ)) → EndIs x s asked e → line ≡ end_line e → own ≡ least (value_unsuited s line asked x.told) → c.least ≡ earlier x.least own → c.end ≡ x.end → EndFinds c s asked e
suited c x s asked e line own f h o l k = record {
  broken = joined c.least x.least own (end_faults s asked e) (value_unsuited s (end_line e) asked (end_type s asked e)) l f.broken
      (o ∙ ap (λ m. least (value_unsuited s m asked x.told)) h ∙ ap (λ u. least (value_unsuited s (end_line e) asked u)) f.told);
  tree = λ n. k ∙ f.tree (none_before x.least own (sym l ∙ n));
}

-- an end as the code holds it
pub all_ends_seen : (r : Result CheckedEnd NoMemory) (s : Scope) (asked : Asked) (x y : LabelEnd ℕ) → x ≡ y → IfOk r (λ c. EndIs c s asked y) → IfOk r (λ c. EndIs c s asked x)
all_ends_seen r s asked x y h f = subst (λ (z : LabelEnd ℕ). IfOk r (λ c. EndIs c s asked z)) (sym h) f
