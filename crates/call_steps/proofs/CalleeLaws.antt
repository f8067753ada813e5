-- What stands behind the last selector decides.
use Rattle.std.proofs.Common.{◌≡◌, ℕ, true, false, List, [], ◌∷◌, length, None, refl}
use Rattle.std.specs.Prelude.{◌&&◌, is_some}
use Rattle.st_tree.specs.declared.expression.Root.{Root}
use Rattle.st_tree.specs.declared.expression.Root.TheVariants as root
use Rattle.st_tree.specs.declared.program.Note.{Note}
use Rattle.st_tree.specs.declared.expression.Selector.{Selector as CodeSelector}
use Rattle.st_tree.specs.Expression.{selectors_of, Expressions, Field, Index, Selectors, no_selectors, selector_then}
use Rattle.st_meaning.specs.Call.{method_name, is_direct, last_method, search_of, member_callee, callee_of}
use Rattle.call_steps.specs.Private.Callee.{is_last}

pub direct_field : (a : Note) (n : List ℕ) (ss : Selectors Note) → is_direct (selector_then (Field a n) ss) ≡ (is_last ss && is_some (method_name (Field a n)))
direct_field a n no_selectors = refl
direct_field a n (selector_then s ss) = refl

pub direct_index : (a : Note) (es : Expressions Note) (ss : Selectors Note) → is_direct (selector_then (Index a es) ss) ≡ false
direct_index a es no_selectors = refl
direct_index a es (selector_then s ss) = refl

pub behind_selectors : (r : Root Note) (ss : Selectors Note) → false ≡ is_last ss → callee_of r ss ≡ member_callee (search_of r ss) (last_method None ss)
behind_selectors r no_selectors h = absurd cc
behind_selectors (root.Name a name) (selector_then s ss) h = refl
behind_selectors (root.This a) (selector_then s ss) h = refl
behind_selectors (root.Super a) (selector_then s ss) h = refl

pub none_direct : (ss : List (CodeSelector Note)) → length ss ≡ 0 → true ≡ is_direct (selectors_of ss)
none_direct [] h = refl
none_direct (s ∷ ss) h = absurd cc
