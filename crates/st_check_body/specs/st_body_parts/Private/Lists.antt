-- Labels that are still to come: what was done so far, and what the rest gives, is the whole.
use Rattle.std.specs.Prelude.{◌≡◌, ℕ, List, ◌++◌, map, None}
use Rattle.st_tree.specs.declared.statement.Label.{Label}
use Rattle.st_rules.specs.declared.asked.Asked.{Asked}
use Rattle.st_rules.specs.Faults.{least, earlier}
use Rattle.st_rules.specs.Scope.{Scope}
use Rattle.st_rules.specs.Statements.{labels_faults, typed_label}
use Rattle.st_check_body.specs.declared.st_body_parts.found.CheckedLabels.{CheckedLabels}

pub record LabelsLeft (x : CheckedLabels) (s : Scope) (asked : Asked) (rest all : List (Label ℕ)) : Type 0 where
  pub broken : earlier x.least (least (labels_faults s asked rest)) ≡ least (labels_faults s asked all)
  pub tree : x.least ≡ None → x.labels ++ map (typed_label s asked) rest ≡ map (typed_label s asked) all
