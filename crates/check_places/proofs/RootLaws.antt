-- The rules of a root by the cases that the code tells apart.
use Rattle.std.proofs.Common.{◌≡◌, ℕ, suc, Bool, true, false, List, [], ◌∷◌, length, refl, ap}
use Rattle.std.specs.Prelude.{if◌then◌else◌, map}
use Rattle.st_tree.specs.declared.expression.Selector.{Selector as CodeSelector}
use Rattle.st_tree.specs.declared.expression.Root.TheVariants as root
use Rattle.st_tree.specs.Expression.{Selectors, no_selectors, selector_then, Field, Index, selectors_of}
use Rattle.st_tree.specs.Expression as tree
use Rattle.st_rules.specs.Faults.{Faults}
use Rattle.st_rules.specs.Scope.{Scope, sought, dot_qualifier}
use Rattle.st_rules.specs.Places.{root_faults, name_faults, qualified_faults, instance_outside_a_class, count_selectors}
use Rattle.check_places.specs.Private.Places.{begins_with_field, is_bare}

module _ (s : Scope) (called : Bool) where
  pub faults_of_name : (l : ℕ) (name : List ℕ) (ss : Selectors ℕ) → root_faults s called (root.Name l name) ss
      ≡ (if is_bare ss then name_faults s l called (sought s called name) else (if begins_with_field ss then qualified_faults s l (dot_qualifier s name) name else name_faults s l false (sought s false name)))
  unfolding root_faults
  faults_of_name l name no_selectors = refl
  faults_of_name l name (selector_then (Field k n) ss) = refl
  faults_of_name l name (selector_then (Index k es) ss) = refl
  faults_of_name l name (selector_then (tree.Target k) ss) = refl

  pub faults_of_this : (l : ℕ) (ss : Selectors ℕ) → root_faults s called (root.This l) ss ≡ instance_outside_a_class s l
  unfolding root_faults
  faults_of_this l ss = refl

  pub faults_of_super : (l : ℕ) (ss : Selectors ℕ) → root_faults s called (root.Super l) ss ≡ instance_outside_a_class s l
  unfolding root_faults
  faults_of_super l ss = refl

pub ruleset roots = (faults_of_name, faults_of_this, faults_of_super)

pub count_is : (xs : List (CodeSelector ℕ)) → count_selectors (selectors_of xs) ≡ length xs
count_is [] = refl
count_is (x ∷ xs) = ap suc (count_is xs)
