-- A value is put in the place of a part, or of something in it.
use Rattle.std.specs.Prelude.{◌≡◌, ℕ, ℤ, List, Option, Some, None, Result, Ok, Err}
use Rattle.st_tree.specs.declared.path.Step.{Step}
use Rattle.st_tree.specs.declared.path.Step.TheVariants as step
use Rattle.st_values.specs.Value.{Value, array, Values, Members, part, with_element_at, place_of_index, member, with_member, value_at, value_with, ◌>>=◌}
use Rattle.value_trees.specs.declared.value.Value.{Value as CodeValue}
use Rattle.value_trees.specs.Value.{value_of}

-- a part is found, and the way goes on in it
pub record Found (A : Type 0) (o : Option Value) (ss : List Step) (new old : Value) (after : A) (put : Value → A) : Type 0 where
  pub from : Value
  pub to : Value
  pub there : o ≡ Some from
  pub reads : value_at from ss ≡ Some old
  pub writes : value_with from ss new ≡ Some to
  pub is : after ≡ put to

-- no part is found, or the way does not go on in it
pub record Lost (A : Type 0) (o : Option Value) (ss : List Step) (new back : Value) (before after : A) : Type 0 where
  pub reads : (o >>= λ w. value_at w ss) ≡ None
  pub writes : (o >>= λ w. value_with w ss new) ≡ None
  pub is : after ≡ before
  pub kept : back ≡ new

-- from an index on
abbrev pub ElementExchanged : Result CodeValue CodeValue → ℤ → Values → ℤ → List Step → Value → Values → Type 0
ElementExchanged (Ok old) low vs i ss new after = Found Values (part (array low vs) (step.Element i)) ss new (value_of old) after (with_element_at vs (place_of_index low i))
ElementExchanged (Err back) low vs i ss new after = Lost Values (part (array low vs) (step.Element i)) ss new (value_of back) vs after

-- from a member on
abbrev pub MemberExchanged : Result CodeValue CodeValue → Members → ℕ → List Step → Value → Members → Type 0
MemberExchanged (Ok old) ms k ss new after = Found Members (member ms k) ss new (value_of old) after (with_member ms k)
MemberExchanged (Err back) ms k ss new after = Lost Members (member ms k) ss new (value_of back) ms after
