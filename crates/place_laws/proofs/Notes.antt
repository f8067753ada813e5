-- The type that stands in the note of a typed expression is the one that the rules give.
use Rattle.std.proofs.Common.{◌≡◌, ℕ, refl}
use Rattle.st_tree.specs.Expression.{Expression, Int, Typed, Time, True, False, Null, Place, Call, Enumerator, Ref, Now, Paren, Not, Negate, Chain}
use Rattle.st_rules.specs.declared.asked.Asked.{Asked}
use Rattle.st_rules.specs.Scope.{Scope}
use Rattle.st_rules.specs.Expressions.{told, type_of, typed}
use Rattle.st_meaning.specs.st_frame.Promise.Calls.{kind}

module _ (s : Scope) where
  pub kind_told : (asked : Asked) (e : Expression ℕ) → kind (typed s asked e) ≡ told (type_of s asked e)
  kind_told asked (Int l digits) = refl
  kind_told asked (Typed l k literal) = refl
  kind_told asked (Time l text) = refl
  kind_told asked (True l) = refl
  kind_told asked (False l) = refl
  kind_told asked (Null l) = refl
  kind_told asked (Place l r ss) = refl
  kind_told asked (Call l r ss xs) = refl
  kind_told asked (Enumerator l t k name) = refl
  kind_told asked (Ref l r ss) = refl
  kind_told asked (Now l) = refl
  kind_told asked (Paren l e) = refl
  kind_told asked (Not l e) = refl
  kind_told asked (Negate l (Int k digits)) = refl
  kind_told asked (Negate l e) = refl
  kind_told asked (Chain l e ts) = refl
