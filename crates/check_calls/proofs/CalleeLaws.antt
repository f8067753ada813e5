-- What is called, by the cases that the code tells apart.
use Rattle.std.proofs.Common.{◌≡◌, ℕ, Bool, true, false, List, refl}
use Rattle.std.specs.Prelude.{if◌then◌else◌}
use Rattle.st_tree.specs.declared.expression.Root.{Root}
use Rattle.st_tree.specs.Expression.{Selectors, no_selectors, selector_then, Selector, Field, Index, Expressions}
use Rattle.st_tree.specs.Expression as tree
use Rattle.st_rules.specs.Scope.{Scope}
use Rattle.st_rules.specs.Places.{Standing, is_last, part_of, selected, root_standing}
use Rattle.st_rules.specs.Calls.{callee, callee_along, part_callee, root_callee}

module _ (s : Scope) (r : Root ℕ) where
  pub field_last : (b : Standing) (l : ℕ) (n : List ℕ) (ss : Selectors ℕ) → is_last ss ≡ true → callee_along s r b (selector_then (Field l n) ss) ≡ part_callee s (part_of s b true n)
  field_last b l n no_selectors h = refl
  field_last b l n (selector_then x ss) h = absurd (cc h)

  pub field_on : (b : Standing) (l : ℕ) (n : List ℕ) (ss : Selectors ℕ) → is_last ss ≡ false → callee_along s r b (selector_then (Field l n) ss) ≡ callee_along s r (selected s b (Field l n)) ss
  field_on b l n no_selectors h = absurd (cc h)
  field_on b l n (selector_then x ss) h = refl

  pub index_on : (b : Standing) (l : ℕ) (es : Expressions ℕ) (ss : Selectors ℕ) → callee_along s r b (selector_then (Index l es) ss) ≡ callee_along s r (selected s b (Index l es)) ss
  index_on b l es no_selectors = refl
  index_on b l es (selector_then x ss) = refl

  pub target_on : (b : Standing) (l : ℕ) (ss : Selectors ℕ) → callee_along s r b (selector_then (tree.Target l) ss) ≡ callee_along s r (selected s b (tree.Target l)) ss
  target_on b l no_selectors = refl
  target_on b l (selector_then x ss) = refl

  pub callee_is : (ss : Selectors ℕ) → callee s r ss ≡ (if is_last ss then root_callee s r else callee_along s r (root_standing s r ss) ss)
  unfolding callee
  callee_is no_selectors = refl
  callee_is (selector_then x ss) = refl

pub ruleset steps = (field_last, field_on, index_on, target_on)
