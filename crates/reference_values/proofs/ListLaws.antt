-- Lists of the tree, the first part and the rest.
use Rattle.std.proofs.Common.{◌≡◌, ℕ, ◌+◌, ◌<◌, List, ap, ◌∙◌, drop, get_or, length}
use Rattle.st_tree.specs.declared.expression.Tail.{Tail}
use Rattle.st_tree.specs.declared.program.Note.{Note}
use Rattle.st_tree.specs.Expression.{expression_of, tail_of-is, tails_of, tail_then}
use Rattle.st_rules.proofs.ListLaws.{drop-at}

pub tails_next : (ts : List (Tail Note)) (i : ℕ) (t : Tail Note) → i < length ts → t ≡ get_or ts i t → tails_of (drop i ts) ≡ tail_then t.note t.operator (expression_of t.operand) (tails_of (drop (i + 1) ts))
tails_next ts i t h e =
    ap tails_of (drop-at ts i t h e) ∙ ap (λ x. tail_then x.0 x.1 x.2 (tails_of (drop (i + 1) ts))) (tail_of-is t)
