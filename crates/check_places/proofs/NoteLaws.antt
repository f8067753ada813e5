-- Notes by the cases that the code tells apart.
use Rattle.std.proofs.Common.{◌≡◌, ℕ, Bool, true, false, List, refl, sym}
use Rattle.std.specs.Prelude.{if◌then◌else◌}
use Rattle.st_tree.specs.declared.program.Target.TheVariants.{Nothing}
use Rattle.st_tree.specs.declared.expression.Root.TheVariants as root
use Rattle.st_tree.specs.Expression.{Selectors, no_selectors, selector_then, Field, Index}
use Rattle.st_tree.specs.Expression as tree
use Rattle.st_rules.specs.Scope.{Scope, sought}
use Rattle.st_rules.specs.Places.{Standing, untold, a_value, own_instance, no_base, an_enumeration, root_standing, standing_type}
use Rattle.st_rules.specs.Expressions.{note, typed_root, whole_target, value_target, qualified_target as target_of}
use Rattle.check_places.specs.Private.Places.{begins_with_field, is_bare}
use Rattle.check_places.specs.Private.Notes.{root_note, qualified_target}

module _ (s : Scope) where
  pub typed_name : (called : Bool) (l : ℕ) (name : List ℕ) (ss : Selectors ℕ) → typed_root s called (root.Name l name) ss ≡ root.Name (root_note s called l name ss) name
  unfolding typed_root
  typed_name called l name no_selectors = refl
  typed_name called l name (selector_then (Field k n) ss) = refl
  typed_name called l name (selector_then (Index k es) ss) = refl
  typed_name called l name (selector_then (tree.Target k) ss) = refl

  pub typed_this : (called : Bool) (l : ℕ) (ss : Selectors ℕ) → typed_root s called (root.This l) ss ≡ root.This (note l (standing_type (root_standing s (root.This l) ss)) Nothing)
  unfolding typed_root
  typed_this called l no_selectors = refl
  typed_this called l (selector_then x ss) = refl

  pub typed_super : (called : Bool) (l : ℕ) (ss : Selectors ℕ) → typed_root s called (root.Super l) ss ≡ root.Super (note l (standing_type (root_standing s (root.Super l) ss)) Nothing)
  unfolding typed_root
  typed_super called l no_selectors = refl
  typed_super called l (selector_then x ss) = refl

  one : (b : Standing) (k : ℕ) (n : List ℕ) → target_of s b n ≡ qualified_target s b (selector_then (Field k n) no_selectors)
  one untold k n = refl
  one (a_value t) k n = refl
  one (own_instance c) k n = refl
  one no_base k n = refl
  one (an_enumeration e) k n = refl

  none_of : (b : Standing) (ss : Selectors ℕ) → begins_with_field ss ≡ false → qualified_target s b ss ≡ Nothing
  none_of b no_selectors h = refl
  none_of b (selector_then (Field k n) ss) h = absurd (cc h)
  none_of b (selector_then (Index k es) (selector_then y ss)) h = refl
  none_of b (selector_then (tree.Target k) (selector_then y ss)) h = refl
  none_of untold (selector_then (Index k es) no_selectors) h = refl
  none_of (a_value t) (selector_then (Index k es) no_selectors) h = refl
  none_of (own_instance c) (selector_then (Index k es) no_selectors) h = refl
  none_of no_base (selector_then (Index k es) no_selectors) h = refl
  none_of (an_enumeration e) (selector_then (Index k es) no_selectors) h = refl
  none_of untold (selector_then (tree.Target k) no_selectors) h = refl
  none_of (a_value t) (selector_then (tree.Target k) no_selectors) h = refl
  none_of (own_instance c) (selector_then (tree.Target k) no_selectors) h = refl
  none_of no_base (selector_then (tree.Target k) no_selectors) h = refl
  none_of (an_enumeration e) (selector_then (tree.Target k) no_selectors) h = refl

  pub whole_name : (l : ℕ) (name : List ℕ) (ss : Selectors ℕ) → whole_target s (root.Name l name) ss
      ≡ (if is_bare ss then value_target (sought s false name) else qualified_target s (root_standing s (root.Name l name) ss) ss)
  unfolding whole_target
  whole_name l name no_selectors = refl
  whole_name l name (selector_then (Field k n) no_selectors) = one (root_standing s (root.Name l name) (selector_then (Field k n) no_selectors)) k n
  whole_name l name (selector_then (Field k n) (selector_then x ss)) = refl
  whole_name l name (selector_then (Index k es) ss) = sym (none_of _ (selector_then (Index k es) ss) refl)
  whole_name l name (selector_then (tree.Target k) ss) = sym (none_of _ (selector_then (tree.Target k) ss) refl)

  pub whole_this : (l : ℕ) (ss : Selectors ℕ) → whole_target s (root.This l) ss ≡ Nothing
  unfolding whole_target
  whole_this l no_selectors = refl
  whole_this l (selector_then x ss) = refl

  pub whole_super : (l : ℕ) (ss : Selectors ℕ) → whole_target s (root.Super l) ss ≡ Nothing
  unfolding whole_target
  whole_super l no_selectors = refl
  whole_super l (selector_then x ss) = refl

pub ruleset typed_roots = (typed_name, typed_this, typed_super)

pub ruleset whole_targets = (whole_name, whole_this, whole_super)
