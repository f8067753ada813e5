-- Definitions of places by cases that the code tells apart.
use Rattle.std.proofs.Common.{◌≡◌, ℕ, Bool, true, false, List, Option, Some, None, refl, sym, ap, ◌∙◌}
use Rattle.std.specs.Prelude.{if◌then◌else◌, option_map, slice_get}
use Rattle.std.specs.Option.{is_some}
use Rattle.st_tree.specs.declared.name.Used.{Used}
use Rattle.st_tree.specs.declared.declaration.ClassDecl.{ClassDecl}
use Rattle.st_tree.specs.declared.expression.Root.TheVariants as root
use Rattle.st_tree.specs.Expression.{Selectors, no_selectors, selector_then, Field, Index}
use Rattle.st_tree.specs.Expression as tree
use Rattle.st_rules.specs.Classes.{base_of, class_named}
use Rattle.st_rules.specs.Scope.{Scope, dot_qualifier}
use Rattle.st_rules.specs.Places.{root_standing, name_standing, qualified_standing, this_standing, super_standing}
use Rattle.check_places.specs.Private.Places.{begins_with_field, super_by}

-- SUPER in a class by the two questions that the code asks
abbrev pub SuperIs : Scope → ℕ → Type 0
SuperIs s c = super_standing s (Some c) ≡ super_by (option_map (λ class. is_some class.base) (slice_get s.classes c)) (base_of s.classes c)

module _ (s : Scope) where
  pub root_of_name : (l : ℕ) (name : List ℕ) (ss : Selectors ℕ) → root_standing s (root.Name l name) ss ≡ (if begins_with_field ss then qualified_standing s (dot_qualifier s name) name else name_standing s name)
  unfolding root_standing
  root_of_name l name no_selectors = refl
  root_of_name l name (selector_then (Field k n) ss) = refl
  root_of_name l name (selector_then (Index k es) ss) = refl
  root_of_name l name (selector_then (tree.Target k) ss) = refl

  pub root_of_this : (l : ℕ) (ss : Selectors ℕ) → root_standing s (root.This l) ss ≡ this_standing s s.class
  unfolding root_standing
  root_of_this l ss = refl

  pub root_of_super : (l : ℕ) (ss : Selectors ℕ) → root_standing s (root.Super l) ss ≡ super_standing s s.class
  unfolding root_standing
  root_of_super l ss = refl

  pub super_is : (c : ℕ) → super_standing s (Some c) ≡ super_by (option_map (λ class. is_some class.base) (slice_get s.classes c)) (base_of s.classes c)
  super_is c = at (slice_get s.classes c) refl
    where
      by_name : (class : ClassDecl ℕ) → slice_get s.classes c ≡ Some class → (b : Used ℕ) → class.base ≡ Some b → (x : Option ℕ) → class_named s.classes b.text ≡ x → SuperIs s c
      by_name class e b f None g = simp (e, f, g)
      by_name class e b f (Some x) g = simp (e, f, g)

      by_base : (class : ClassDecl ℕ) → slice_get s.classes c ≡ Some class → (b : Option (Used ℕ)) → class.base ≡ b → SuperIs s c
      by_base class e None f = rw (e, f) refl
      by_base class e (Some b) f = by_name class e b f (class_named s.classes b.text) refl

      at : (o : Option (ClassDecl ℕ)) → slice_get s.classes c ≡ o → SuperIs s c
      at None e = rw e refl
      at (Some class) e = by_base class e class.base refl

pub ruleset roots = (root_of_name, root_of_this, root_of_super)
