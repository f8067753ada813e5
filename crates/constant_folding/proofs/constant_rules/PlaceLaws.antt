-- Places by what they begin with.
use Rattle.std.proofs.Common.{◌≡◌, ℕ, false, List, refl}
use Rattle.std.specs.Prelude.{◌&&◌}
use Rattle.std.specs.Option.{is_some}
use Rattle.st_tree.specs.declared.expression.Root.TheVariants as root
use Rattle.st_tree.specs.Expression.{Selectors, no_selectors, selector_then, Field, Index, Target}
use Rattle.st_rules.specs.Calls.{conversion_named}
use Rattle.st_rules.specs.Expressions.{is_conversion}
use Rattle.st_rules.specs.Places.{is_last}
use Rattle.st_rules.specs.Scope.{Scope}
use Rattle.st_unit_rules.specs.declared_names.Constants.{is_constant_place}
use Rattle.constant_folding.specs.constant_rules.Private.Places.{is_constant_at}

pub constant_name : (s : Scope) (l : ℕ) (name : List ℕ) (ss : Selectors ℕ) → is_constant_place s (root.Name l name) ss ≡ is_constant_at s name ss
constant_name s l name no_selectors = refl
constant_name s l name (selector_then (Field k n) no_selectors) = refl
constant_name s l name (selector_then (Field k n) (selector_then x xs)) = refl
constant_name s l name (selector_then (Index k es) no_selectors) = refl
constant_name s l name (selector_then (Index k es) (selector_then x xs)) = refl
constant_name s l name (selector_then (Target k) no_selectors) = refl
constant_name s l name (selector_then (Target k) (selector_then x xs)) = refl

pub constant_this : (s : Scope) (l : ℕ) (ss : Selectors ℕ) → is_constant_place s (root.This l) ss ≡ false
constant_this s l no_selectors = refl
constant_this s l (selector_then x xs) = refl

pub constant_super : (s : Scope) (l : ℕ) (ss : Selectors ℕ) → is_constant_place s (root.Super l) ss ≡ false
constant_super s l no_selectors = refl
constant_super s l (selector_then x xs) = refl

pub conversion_name : (s : Scope) (l : ℕ) (name : List ℕ) (ss : Selectors ℕ) → is_conversion s (root.Name l name) ss ≡ (is_last ss && is_some (conversion_named name))
conversion_name s l name no_selectors = refl
conversion_name s l name (selector_then x xs) = refl

pub conversion_this : (s : Scope) (l : ℕ) (ss : Selectors ℕ) → is_conversion s (root.This l) ss ≡ false
conversion_this s l no_selectors = refl
conversion_this s l (selector_then x xs) = refl

pub conversion_super : (s : Scope) (l : ℕ) (ss : Selectors ℕ) → is_conversion s (root.Super l) ss ≡ false
conversion_super s l no_selectors = refl
conversion_super s l (selector_then x xs) = refl
