-- One label more.
use Rattle.std.proofs.Common.{◌≡◌, ℕ, ◌+◌, ◌<◌, ◌≤◌, List, [], ◌∷◌, ◌++◌, None, refl, sym, ap, ◌∙◌, map, drop, get_or, length, append_assoc}
use Rattle.st_tree.specs.declared.program.Note.{Note}
use Rattle.st_tree.specs.declared.statement.Label.{Label}
use Rattle.st_rules.specs.declared.asked.Asked.{Asked}
use Rattle.st_rules.specs.Faults.{least, earlier}
use Rattle.st_rules.specs.Scope.{Scope}
use Rattle.st_rules.specs.Statements.{label_faults, labels_faults, typed_label}
use Rattle.st_rules.proofs.FaultLaws.{earlier-none}
use Rattle.st_rules.proofs.ListLaws.{drop-at, drop-end}
use Rattle.st_check_body.specs.declared.st_body_parts.found.CheckedLabel.{CheckedLabel}
use Rattle.st_check_body.specs.declared.st_body_parts.found.CheckedLabels.{CheckedLabels}
use Rattle.st_check_body.specs.st_body_parts.Found.{LabelFinds, LabelsFind}
use Rattle.st_check_body.specs.st_body_parts.Private.Lists.{LabelsLeft}
use Rattle.st_check_body.specs.st_body_parts.Nodes.{NoLabel, AddsLabel}
use Rattle.st_check_body.proofs.st_body_parts.Parts.{more_broken, none_before, none_behind}

appended_nothing : (xs : List (Label Note)) → xs ++ [] ≡ xs
appended_nothing [] = refl
appended_nothing (x ∷ xs) = ap (λ ys. x ∷ ys) (appended_nothing xs)

module _ (s : Scope) (asked : Asked) where
  pub labels_begun : (x : CheckedLabels) (all : List (Label ℕ)) → NoLabel x → LabelsLeft x s asked all all
  labels_begun x all n = record {
    broken = ap (λ r. earlier r (least (labels_faults s asked all))) n.least;
    tree = λ h. ap (λ xs. xs ++ map (typed_label s asked) all) n.labels;
  }

  pub labels_next : (x before : CheckedLabels) (one : CheckedLabel) (list : List (Label ℕ)) (i : ℕ) (y : Label ℕ) (all : List (Label ℕ)) → i < length list → y ≡ get_or list i y → AddsLabel x before one → LabelFinds one s asked y →
      LabelsLeft before s asked (drop i list) all → LabelsLeft x s asked (drop (i + 1) list) all
  labels_next x before one list i y all h at a f l =
      let rest = drop (i + 1) list in
      let here : drop i list ≡ y ∷ rest = drop-at list i y h at in
      record {
        broken = more_broken x.least before.least one.least (label_faults s asked y) (labels_faults s asked rest) (least (labels_faults s asked all)) a.least f.broken
            (sym (ap (λ ls. earlier before.least (least (labels_faults s asked ls))) here) ∙ l.broken);
        tree = λ n.
            let m : earlier before.least one.least ≡ None = sym a.least ∙ n in
            ap (λ xs. xs ++ map (typed_label s asked) rest) (a.labels ∙ ap (λ t. before.labels ++ t ∷ []) (f.tree (none_behind before.least one.least m)))
            ∙ append_assoc before.labels (typed_label s asked y ∷ []) (map (typed_label s asked) rest)
            ∙ sym (ap (λ ls. before.labels ++ map (typed_label s asked) ls) here)
            ∙ l.tree (none_before before.least one.least m);
      }

  pub labels_ended : (x : CheckedLabels) (list : List (Label ℕ)) (i : ℕ) (all : List (Label ℕ)) → length list ≤ i → LabelsLeft x s asked (drop i list) all → LabelsFind x s asked all
  labels_ended x list i all h l =
      let here : drop i list ≡ [] = drop-end list i h in
      record {
        broken = sym (earlier-none x.least) ∙ sym (ap (λ ls. earlier x.least (least (labels_faults s asked ls))) here) ∙ l.broken;
        tree = λ n. sym (appended_nothing x.labels) ∙ sym (ap (λ ls. x.labels ++ map (typed_label s asked) ls) here) ∙ l.tree n;
      }
