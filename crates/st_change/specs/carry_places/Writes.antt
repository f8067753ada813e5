-- Rows of writes into a value.
use Rattle.std.specs.Prelude.{◌≡◌, ◌⊎◌, Bool, true, false, List, [], ◌∷◌, Option, Some}
use Rattle.st_tree.specs.declared.path.Step.{Step}
use Rattle.st_values.specs.Program.{Program}
use Rattle.st_values.specs.Value.{Value, number, reference, value_at, value_with, ◌>>=◌}
use Rattle.st_values.specs.Shape.{Shape, shape_at}
use Rattle.st_change.specs.Carry.{Old, carry}
use Rattle.st_change.specs.carry_places.Places.{old_along, none_stays}

pub record Write : Type 0 where
  pub steps : List Step
  pub value : Value

-- the value with these written, one after the other; none where one leads nowhere
abbrev pub written : Value → List Write → Option Value
written v [] = Some v
written v (w ∷ ws) = do
  next ← value_with v w.steps w.value
  written next ws

-- one of the writes is to this place
abbrev pub IsAmong : List Step → List Write → Type 0
IsAmong ss [] = ⊥
IsAmong ss (w ∷ ws) = (w.steps ≡ ss) ⊎ IsAmong ss ws

-- a value without parts
abbrev pub is_single : Value → Bool
is_single (number z) = true
is_single (reference h) = true
is_single v = false

-- A write of a single value to a place on whose way no variable stays: of what is carried to that place alone.
pub record Carries (old new : Program) (keeping : Bool) (sh : Shape) (o : Old) (held : Value) (w : Write) : Type 0 where
  pub leaf : Shape
  pub was : Value
  pub there : shape_at sh w.steps ≡ Some leaf
  pub holds : value_at held w.steps ≡ Some was
  pub single : is_single w.value ≡ true
  pub free : none_stays old new keeping (Some sh) w.steps ≡ true
  pub is : w.value ≡ carry old new keeping leaf (old_along old new sh o w.steps) was

-- Each single place on whose way no variable stays is written, but where what is carried to it is what it holds.
pub record Covers (old new : Program) (keeping : Bool) (sh : Shape) (o : Old) (held : Value) (ws : List Write) : Type 0 where
  pub by : (ss : List Step) (leaf : Shape) (h : Value) → shape_at sh ss ≡ Some leaf → value_at held ss ≡ Some h → is_single h ≡ true → none_stays old new keeping (Some sh) ss ≡ true
      → IsAmong ss ws ⊎ (carry old new keeping leaf (old_along old new sh o ss) h ≡ h)
