-- Labels, from their ends.
use Rattle.std.proofs.Common.{◌≡◌, ℕ, ◌++◌, [], Option, Some, None, refl, sym, ap, ◌∙◌, subst}
use Rattle.plc_text.specs.declared.code.Code.{Code}
use Rattle.st_tree.specs.declared.program.Note.{Note}
use Rattle.st_tree.specs.declared.statement.Label.{Label}
use Rattle.st_tree.specs.declared.statement.LabelEnd.{LabelEnd}
use Rattle.st_rules.specs.declared.asked.Asked.{Asked}
use Rattle.st_rules.specs.Faults.{least, earlier}
use Rattle.st_rules.specs.Scope.{Scope}
use Rattle.st_rules.specs.Statements.{label_end_faults, last_end_faults, typed_end}
use Rattle.st_rules.proofs.FaultLaws.{earlier-none}
use Rattle.std.specs.Prelude.{option_map}
use Rattle.st_check_body.specs.declared.st_body_parts.found.CheckedEnd.{CheckedEnd}
use Rattle.st_check_body.specs.declared.st_body_parts.found.CheckedLabel.{CheckedLabel}
use Rattle.st_check_body.specs.st_body_parts.Found.{EndFinds, LabelFinds}
use Rattle.st_check_body.proofs.st_body_parts.Parts.{joined, none_before, none_behind}

abbrev label_of : LabelEnd Note → Option (LabelEnd Note) → Label Note
label_of a b = record { first = a; last = b }

pub range_of : (a x b y : LabelEnd Note) → a ≡ x → b ≡ y → label_of a (Some b) ≡ label_of x (Some y)
range_of a x b y h k = ap (λ z. label_of z (Some b)) h ∙ ap (λ z. label_of x (Some z)) k

pub single_of : (a x : LabelEnd Note) → a ≡ x → label_of a None ≡ label_of x None
single_of a x h = ap (λ z. label_of z None) h

pub range_arm : (c : CheckedLabel) (s : Scope) (asked : Asked) (x : Label ℕ) (e : LabelEnd ℕ) (a b : CheckedEnd) → EndFinds a s asked x.first → x.last ≡ Some e → EndFinds b s asked e → c.least ≡ earlier a.least b.least → c.label ≡ label_of a.end (Some b.end) → LabelFinds c s asked x
range_arm c s asked x e a b f is g h k = record {
  broken = joined c.least a.least b.least (label_end_faults s asked x.first) (last_end_faults s asked x.last) h f.broken (g.broken ∙ ap (λ o. least (last_end_faults s asked o)) (sym is));
  tree = λ n.
      let m : earlier a.least b.least ≡ None = sym h ∙ n in
      k ∙ ap (λ y. label_of y (Some b.end)) (f.tree (none_before a.least b.least m)) ∙ ap (λ y. label_of (typed_end s asked x.first) (Some y)) (g.tree (none_behind a.least b.least m))
      ∙ ap (λ o. label_of (typed_end s asked x.first) (option_map (typed_end s asked) o)) (sym is);
}

pub single_arm : (c : CheckedLabel) (s : Scope) (asked : Asked) (x : Label ℕ) (a : CheckedEnd) → EndFinds a s asked x.first → x.last ≡ None → c.least ≡ a.least → c.label ≡ label_of a.end None → LabelFinds c s asked x
single_arm c s asked x a f is h k = record {
  broken = joined c.least a.least None (label_end_faults s asked x.first) (last_end_faults s asked x.last) (h ∙ sym (earlier-none a.least)) f.broken (ap (λ o. least (last_end_faults s asked o)) (sym is));
  tree = λ n. k ∙ ap (λ y. label_of y None) (f.tree (sym h ∙ n)) ∙ ap (λ o. label_of (typed_end s asked x.first) (option_map (typed_end s asked) o)) (sym is);
}
