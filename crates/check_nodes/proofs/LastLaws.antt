-- The last selector.
use Rattle.std.proofs.Common.{◌≡◌, ℕ, ◌+◌, ◌<◌, List, [], ◌∷◌, length, drop, ◌∙◌, arith, length-drop, refl}
use Rattle.std.specs.Prelude.{nat_eq}
use Rattle.std.proofs.lemmas.Grind.{common_steps}
use Rattle.st_tree.specs.declared.expression.Selector.{Selector}
use Rattle.st_tree.specs.Expression.{selectors_of}
use Rattle.st_rules.specs.Places.{is_last}

ends : (ss : List (Selector ℕ)) → is_last (selectors_of ss) ≡ nat_eq (length ss) 0
ends [] = refl
ends (x ∷ ss) = grind (arith, common_steps)

pub is_last-drop : (ss : List (Selector ℕ)) (i : ℕ) → i < length ss → is_last (selectors_of (drop (i + 1) ss)) ≡ nat_eq (i + 1) (length ss)
is_last-drop ss i h = ends (drop (i + 1) ss) ∙ grind (arith, common_steps, length-drop (i + 1) ss)
