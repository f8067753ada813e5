-- What may not be written, by the cases that the code tells apart.
use Rattle.std.proofs.Common.{◌≡◌, ℕ, Bool, List, refl, ap, ◌∙◌}
use Rattle.std.specs.Prelude.{if◌then◌else◌, ◌||◌, false}
use Rattle.st_tree.specs.declared.expression.Root.{Root}
use Rattle.st_tree.specs.declared.expression.Root.TheVariants as root
use Rattle.st_tree.specs.Expression.{Selectors, no_selectors, selector_then, Field, Index}
use Rattle.st_tree.specs.Expression as tree
use Rattle.st_rules.specs.Scope.{Scope, sought, dot_qualifier}
use Rattle.st_rules.specs.Places.{is_fixed_root, qualifies, is_no_variable}
use Rattle.check_places.specs.Private.Places.{begins_with_field}

module _ (s : Scope) where
  pub fixed_name : (l : ℕ) (name : List ℕ) (ss : Selectors ℕ) → is_fixed_root s (root.Name l name) ss
      ≡ (if begins_with_field ss then qualifies s (dot_qualifier s name) || is_no_variable s (sought s false name) else is_no_variable s (sought s false name))
  fixed_name l name no_selectors = refl
  fixed_name l name (selector_then (Field k n) ss) = refl
  fixed_name l name (selector_then (Index k es) ss) = refl
  fixed_name l name (selector_then (tree.Target k) ss) = refl

  pub fixed_by : (r : Root ℕ) (l : ℕ) (name : List ℕ) (ss : Selectors ℕ) (b : Bool) → r ≡ root.Name l name → begins_with_field ss ≡ b → is_fixed_root s r ss
      ≡ (if b then qualifies s (dot_qualifier s name) || is_no_variable s (sought s false name) else is_no_variable s (sought s false name))
  fixed_by r l name ss b e h = ap (λ x. is_fixed_root s x ss) e ∙ fixed_name l name ss ∙ ap (λ t. if t then qualifies s (dot_qualifier s name) || is_no_variable s (sought s false name) else is_no_variable s (sought s false name)) h
